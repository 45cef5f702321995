-- `network_options::NetworkOptions::good` meets its contract: each test by comparison is the test of the word. Assumes nothing.
use mathlib.Core.Path.{◌≡◌, sym, ◌∙◌}
use mathlib.Core.Bool.{true, false, ◌&&◌}
use lib.Dec.{leb}
use Rattle.chance.specs.Probability.{good_probability}
use Rattle.nights.specs.Net.{good_options}
use Rattle.network_options.specs.declared.NetworkOptions.{NetworkOptions}
use Rattle.network_options.specs.Options.{plain_options}
use Rattle.network_options.proofs.OptionForms.{good_word_is}
use Rattle.network_options.proofs.NetworkOptions.good.Goals as goal
use Rattle.network_options.proofs.NetworkOptions.good.Goals.{then-good, else-good}

-- the tests by comparison
whole : (o : NetworkOptions) → good_options (plain_options o)
    ≡ good_probability o.packet_loss_probability && (good_probability o.packet_replay_probability && leb o.one_way_delay_min o.one_way_delay_mean)
unfolding good_options
whole o = rw (good_word_is o.packet_loss_probability, good_word_is o.packet_replay_probability)

pub returns-then-good-2 : goal.returns-then-good-2
returns-then-good-2 c = elim c.if-good.branch [
  | then-good w ↦
      let a = sym c.good.ensures ∙ w.if-good.true in
      let b = sym w.good-then-good.ensures ∙ (sym w.value-is ∙ c.if-good-2.true) in
      rw (whole c.args.self, a, b)
  | else-good w ↦ let z : false ≡ true = sym w.if-good.false ∙ (sym w.value-is ∙ c.if-good-2.true) in absurd cc
]

pub returns-else-good-2 : goal.returns-else-good-2
returns-else-good-2 c = elim c.if-good.branch [
  | then-good w ↦
      let a = sym c.good.ensures ∙ w.if-good.true in
      let b = sym w.good-then-good.ensures ∙ (sym w.value-is ∙ c.if-good-2.false) in
      rw (whole c.args.self, a, b) c.if-good-2.false
  | else-good w ↦
      let a = sym c.good.ensures ∙ w.if-good.false in
      rw (whole c.args.self, a) c.if-good-2.false
]

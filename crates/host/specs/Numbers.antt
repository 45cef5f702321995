-- The numbers of the refusals of network, journal, plants and properties, of the properties themselves and of a message's verdicts, one row
-- each (RULES, "Refusal numbers", "Plants and core" and "Properties"). Assumes nothing.
use Rattle.std.specs.Prelude.{◌≡◌}
use Rattle.network_options.specs.Answers.{refusal_number}
use Rattle.network_options.specs.declared.Refusal.TheVariants.{BadLoss, BadReplay, MinOverMean, IllFormed, BadKindOrSort, SentLimit, ShortDraws, ShortExtras, LateTick, Full, ShortOutput, BadJournal, NoJournalRoom, TooFarBack}
use Rattle.plants.specs.Refusals.{plants_refusal}
use Rattle.plants.specs.Verdicts.{verdict_number}
use Rattle.plants.specs.declared.Verdict.TheVariants.{Deliver, ReceiverDown, CutOff}
use Rattle.plants.specs.declared.refusal.Refusal.TheVariants.{PlantCount as Plants, UnknownPlant, IllFormed as PlantsIllFormed, CountFull, NoNonce, BadFlags, TooFewPicks, PickOutOfRange, TooFewHealthy}
use Rattle.properties_verdicts.specs.Verdicts.{property_number, properties_refusal}
use Rattle.properties_verdicts.specs.declared.Property.TheVariants.{CommitNumber, PrefixAgreement, NoDuplicates, Durability, Convergence}
use Rattle.properties_verdicts.specs.declared.Refusal.TheVariants.{PlantCount, NoSuchPlant, BadSnapshot, BadTracker}

pub record NetworkNumbered : Type 0 where
  pub loss_not_good : refusal_number BadLoss ≡ 20
  pub replay_not_good : refusal_number BadReplay ≡ 21
  pub minimum_over_mean : refusal_number MinOverMean ≡ 22
  pub network_ill_formed : refusal_number IllFormed ≡ 23
  pub kind_or_sort : refusal_number BadKindOrSort ≡ 24
  pub sent_limit : refusal_number SentLimit ≡ 25
  pub too_few_draws : refusal_number ShortDraws ≡ 26
  pub too_few_extras : refusal_number ShortExtras ≡ 27
  pub due_tick_too_late : refusal_number LateTick ≡ 28
  pub full : refusal_number Full ≡ 29
  pub output_too_short : refusal_number ShortOutput ≡ 30
  pub bad_header_or_record : refusal_number BadJournal ≡ 31
  pub no_room_in_journal : refusal_number NoJournalRoom ≡ 32
  pub rewind_too_far : refusal_number TooFarBack ≡ 33

pub record PlantsNumbered : Type 0 where
  pub count : plants_refusal Plants ≡ 40
  pub no_such_plant : plants_refusal UnknownPlant ≡ 41
  pub state_ill_formed : plants_refusal PlantsIllFormed ≡ 42
  pub count_full : plants_refusal CountFull ≡ 43
  pub no_nonce : plants_refusal NoNonce ≡ 44
  pub flags : plants_refusal BadFlags ≡ 45
  pub picks_short : plants_refusal TooFewPicks ≡ 46
  pub pick_out_of_range : plants_refusal PickOutOfRange ≡ 47
  pub healthy_under_quorum : plants_refusal TooFewHealthy ≡ 48
  pub delivered : verdict_number Deliver ≡ 0
  pub receiver_down : verdict_number ReceiverDown ≡ 1
  pub cut_off : verdict_number CutOff ≡ 2

pub record PropertiesNumbered : Type 0 where
  pub count : properties_refusal PlantCount ≡ 40
  pub no_such_plant : properties_refusal NoSuchPlant ≡ 41
  pub snapshot : properties_refusal BadSnapshot ≡ 60
  pub tracker : properties_refusal BadTracker ≡ 61
  pub commit_number_monotonic : property_number CommitNumber ≡ 1
  pub committed_prefix_agreement : property_number PrefixAgreement ≡ 3
  pub no_duplicate_ops : property_number NoDuplicates ≡ 4
  pub durability : property_number Durability ≡ 6
  pub convergence : property_number Convergence ≡ 7

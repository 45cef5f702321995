-- Entries that pass the test are equal, and equal ones pass it. Assumes nothing.
use borrow.Author.Tests.{eqb-true, eq-eqb}
use native.Mathlib.Nat.{add-zero}
use native.Mathlib.Omega.{arith}
use mathlib.Core.Bool.{Bool, true, false, ◌&&◌}
use mathlib.Core.List.{List}
use mathlib.Core.Path.{◌≡◌, refl, ap, ◌∙◌}
use Prim.Native.Nat.{ℕ, suc, ◌+◌, ◌≤◌, ◌<◌}
use lib.Dec.{eqb, lit<}
use lib.ListN.{length, get_or, take, drop}
use lib.Pointwise.{pointwise}
use lib.Seq.{drop-cons}
use Rattle.properties_snapshots.specs.Cluster.{LogEntry, same_entry, words_of_entry, entry_in}
use Rattle.properties_snapshots.specs.Layout.{entry_words}
use Rattle.basis.proofs.Laws.{both}

pub same_entries : (a b : LogEntry) → same_entry a b ≡ true → a ≡ b
unfolding same_entry
same_entries a b e =
    let x = both (eqb a.client b.client && eqb a.request b.request && eqb a.id b.id) (eqb a.body b.body) e in
    let y = both (eqb a.client b.client && eqb a.request b.request) (eqb a.id b.id) x.0 in
    let z = both (eqb a.client b.client) (eqb a.request b.request) y.0 in
    let client = eqb-true a.client b.client z.0 in
    let request = eqb-true a.request b.request z.1 in
    let id = eqb-true a.id b.id y.1 in
    let body = eqb-true a.body b.body x.1 in
    λ i. record { client = client i; request = request i; id = id i; body = body i }

pub entries_same : (a b : LogEntry) → a ≡ b → same_entry a b ≡ true
unfolding same_entry
entries_same a b e =
    rw (
      eq-eqb a.client b.client (ap (λ (x : LogEntry). x.client) e),
      eq-eqb a.request b.request (ap (λ (x : LogEntry). x.request) e),
      eq-eqb a.id b.id (ap (λ (x : LogEntry). x.id) e),
      eq-eqb a.body b.body (ap (λ (x : LogEntry). x.body) e),
    )

-- an entry is its words
pub same_words : (w u : List ℕ) (a b : ℕ) → ((m : ℕ) → m < entry_words → get_or w (a + m) 0 ≡ get_or u (b + m) 0) → entry_in w a ≡ entry_in u b
same_words w u a b h =
    let client : get_or w a 0 ≡ get_or u b 0 = simp add-zero at (h 0 (lit< tt)) in
    let request = h 1 (lit< tt) in
    let id = h 2 (lit< tt) in
    let body = h 3 (lit< tt) in
    λ i. record { client = client i; request = request i; id = id i; body = body i }

-- so are the words that are taken there
pub entry_taken : (w : List ℕ) (a n : ℕ) → n ≡ entry_words → a + entry_words ≤ length w → take n (drop a w) ≡ words_of_entry (entry_in w a)
entry_taken w a n e h =
    let one : suc a ≡ a + 1 = omega arith in
    let two : suc (a + 1) ≡ a + 2 = omega arith in
    let three : suc (a + 2) ≡ a + 3 = omega arith in
    ap (λ (k : ℕ). take k (drop a w)) e
    ∙ rw (drop-cons w a 0 (omega arith), drop-cons w (suc a) 0 (omega arith), drop-cons w (suc (suc a)) 0 (omega arith), drop-cons w (suc (suc (suc a))) 0 (omega arith), one, two, three)

-- and to compare them one by one is to compare the entries
entries_compared : (a b : LogEntry) → pointwise eqb (words_of_entry a) (words_of_entry b) ≡ same_entry a b
unfolding same_entry
entries_compared a b = grouped (eqb a.client b.client) (eqb a.request b.request) (eqb a.id b.id) (eqb a.body b.body)
  where
    grouped : (p q r s : Bool) → p && (q && (r && (s && true))) ≡ p && q && r && s
    grouped false q r s = refl
    grouped true false r s = refl
    grouped true true false s = refl
    grouped true true true false = refl
    grouped true true true true = refl

pub words_same : (u w : List ℕ) (a b : LogEntry) → u ≡ words_of_entry a → w ≡ words_of_entry b → pointwise eqb u w ≡ same_entry a b
words_same u w a b e f = rw (e, f) (entries_compared a b)

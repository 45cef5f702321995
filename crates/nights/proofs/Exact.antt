-- The pending list with no sorting: it rises, its members are the copies that wait, and nothing else is such a list. Assumes nothing.
use Prim.Native.Nat.{ℕ, zero, suc, ◌+◌}
use mathlib.Core.Path.{◌≡◌, refl, sym, ap, ◌∙◌, subst}
use mathlib.Core.Logic.{◌⊎◌, inl, inr}
use mathlib.Core.List.Memᴰ.{cases_cons}
use mathlib.Core.List.Memᴰ.{cast}
use mathlib.Core.List.Memᴰ.{head as here}
use mathlib.Core.List.Memᴰ.{not-nil}
use mathlib.Core.List.Memᴰ.{tail as there}
use mathlib.Core.List.{List, [], ◌∷◌, ◌++◌, map, map-append, Memᴰ as Member}
use mathlib.Core.Bool.{Bool, true, false, cond}
use native.Mathlib.Omega.{arith}
use lib.ListN.{length, length-append, length-map}
use Rattle.nights.specs.Record.{Record}
use Rattle.nights.specs.Net.{Options, Plain, keep, insert_by, insert_all, dues, Draws, Letter, copies, Change, send, collect, choose, good_options, rising}
use Rattle.nights.specs.Journal.{Call}
use Rattle.nights.specs.Rule.{options_by, makes, Made, followed, made, waits, from, seq_of, Exactly}
use Rattle.nights.specs.Claim.{ran, stack, stands}
use Rattle.nights.proofs.Folding.{replay}
use Rattle.nights.proofs.Order.{precedes}
use Rattle.nights.proofs.Good.{good_replay, fit_replay, rises_of}
use Rattle.nights.proofs.Fold.{copy_of, sorted_copies}
use Rattle.nights.proofs.Run.{fold_of_standing, all_sound, the_pending_are_sorted}

-- MEMBERS of an insertion, a filter and a map

in_insert_step : (b : Bool) (r x : Record) (xs m : List Record) → Member r m → Member r (cond b (x ∷ m) (r ∷ x ∷ xs))
in_insert_step true r x xs m p = there p
in_insert_step false r x xs m p = here refl

in_insert : (r : Record) (l : List Record) → Member r (insert_by r l)
unfolding insert_by
in_insert r [] = here refl
in_insert r (x ∷ xs) = in_insert_step (precedes x r) r x xs (insert_by r xs) (in_insert r xs)

old_insert_step : (b : Bool) (y r x : Record) (xs m : List Record) → (y ≡ x) ⊎ Member y xs → (Member y xs → Member y m)
    → Member y (cond b (x ∷ m) (r ∷ x ∷ xs))
old_insert_step true y r x xs m (inl e) f = here e
old_insert_step true y r x xs m (inr p) f = there (f p)
old_insert_step false y r x xs m (inl e) f = there (here e)
old_insert_step false y r x xs m (inr p) f = there (there p)

old_insert : (y r : Record) (l : List Record) → Member y l → Member y (insert_by r l)
unfolding insert_by
old_insert y r [] p = absurd (not-nil p)
old_insert y r (x ∷ xs) p = old_insert_step (precedes x r) y r x xs (insert_by r xs) (cases_cons p) (λ (q : Member y xs). old_insert y r xs q)

deeper : {y r x : Record} {xs : List Record} → (y ≡ r) ⊎ Member y xs → (y ≡ r) ⊎ Member y (x ∷ xs)
deeper (inl e) = inl e
deeper (inr p) = inr (there p)

of_insert_step : (b : Bool) (y r x : Record) (xs m : List Record) → Member y (cond b (x ∷ m) (r ∷ x ∷ xs)) → (Member y m → (y ≡ r) ⊎ Member y xs)
    → (y ≡ r) ⊎ Member y (x ∷ xs)
of_insert_step true y r x xs m p f = behind (cases_cons p)
  where
    behind : (y ≡ x) ⊎ Member y m → (y ≡ r) ⊎ Member y (x ∷ xs)
    behind (inl e) = inr (here e)
    behind (inr q) = deeper (f q)
of_insert_step false y r x xs m p f = cases_cons p

of_insert : (y r : Record) (l : List Record) → Member y (insert_by r l) → (y ≡ r) ⊎ Member y l
unfolding insert_by
of_insert y r [] p = cases_cons p
of_insert y r (x ∷ xs) p = of_insert_step (precedes x r) y r x xs (insert_by r xs) p (λ (q : Member y (insert_by r xs)). of_insert y r xs q)

pub old_insert_all : (y : Record) (rs l : List Record) → Member y l → Member y (insert_all rs l)
unfolding insert_all
old_insert_all y [] l p = p
old_insert_all y (r ∷ rs) l p = old_insert_all y rs (insert_by r l) (old_insert y r l p)

pub in_insert_all : (y : Record) (rs l : List Record) → Member y rs → Member y (insert_all rs l)
unfolding insert_all
in_insert_all y [] l p = absurd (not-nil p)
in_insert_all y (r ∷ rs) l p = go (cases_cons p) (λ (q : Member y rs). in_insert_all y rs (insert_by r l) q)
  where
    go : (y ≡ r) ⊎ Member y rs → (Member y rs → Member y (insert_all rs (insert_by r l))) → Member y (insert_all rs (insert_by r l))
    go (inl e) f = old_insert_all y rs (insert_by r l) (cast e (in_insert r l))
    go (inr q) f = f q

pub of_insert_all : (y : Record) (rs l : List Record) → Member y (insert_all rs l) → Member y rs ⊎ Member y l
unfolding insert_all
of_insert_all y [] l p = inr p
of_insert_all y (r ∷ rs) l p = go (of_insert_all y rs (insert_by r l) p)
  where
    last : (y ≡ r) ⊎ Member y l → Member y (r ∷ rs) ⊎ Member y l
    last (inl e) = inl (here e)
    last (inr q) = inr q

    go : Member y rs ⊎ Member y (insert_by r l) → Member y (r ∷ rs) ⊎ Member y l
    go (inl q) = inl (there q)
    go (inr q) = last (of_insert y r l q)

module _ {A : Type 0} where
  in_keep_step : (b : Bool) (m x : A) (xs k : List A) → (m ≡ x → b ≡ true) → (m ≡ x) ⊎ Member m xs → (Member m xs → Member m k)
      → Member m (cond b (x ∷ k) k)
  in_keep_step true m x xs k h (inl e) f = here e
  in_keep_step true m x xs k h (inr p) f = there (f p)
  in_keep_step false m x xs k h (inl e) f = let y = h e in let z : ◌≡◌ {A = ℕ} 0 1 = cc in absurd (omega arith)
  in_keep_step false m x xs k h (inr p) f = f p

  pub in_keep : (p : A → Bool) (m : A) (l : List A) → p m ≡ true → Member m l → Member m (keep p l)
  unfolding keep
  in_keep p m [] h q = absurd (not-nil q)
  in_keep p m (x ∷ xs) h q =
      in_keep_step (p x) m x xs (keep p xs) (λ (e : m ≡ x). ap p (sym e) ∙ h) (cases_cons q) (λ (j : Member m xs). in_keep p m xs h j)

  of_keep_step : (b : Bool) (p : A → Bool) (m x : A) (xs k : List A) → p x ≡ b → Member m (cond b (x ∷ k) k) → (Member m k → (p m ≡ true) × Member m xs)
      → (p m ≡ true) × Member m (x ∷ xs)
  of_keep_step true p m x xs k h q f = go (cases_cons q)
    where
      go : (m ≡ x) ⊎ Member m k → (p m ≡ true) × Member m (x ∷ xs)
      go (inl e) = (ap p e ∙ h, here e)
      go (inr j) = ((f j).0, there (f j).1)
  of_keep_step false p m x xs k h q f = ((f q).0, there (f q).1)

  pub of_keep : (p : A → Bool) (m : A) (l : List A) → Member m (keep p l) → (p m ≡ true) × Member m l
  unfolding keep
  of_keep p m [] q = absurd (not-nil q)
  of_keep p m (x ∷ xs) q = of_keep_step (p x) p m x xs (keep p xs) refl q (λ (j : Member m (keep p xs)). of_keep p m xs j)

in_copies : (m : Made) (l : List Made) → Member m l → Member m.copy (map copy_of l)
in_copies m [] q = absurd (not-nil q)
in_copies m (x ∷ xs) q = go (cases_cons q) (λ (j : Member m xs). in_copies m xs j)
  where
    go : (m ≡ x) ⊎ Member m xs → (Member m xs → Member m.copy (map copy_of xs)) → Member m.copy (map copy_of (x ∷ xs))
    go (inl e) f = here (ap copy_of e)
    go (inr j) f = there (f j)

of_copies : (r : Record) (l : List Made) → Member r (map copy_of l) → (m : Made) × Member m l × (m.copy ≡ r)
of_copies r [] q = absurd (not-nil q)
of_copies r (x ∷ xs) q = go (cases_cons q) (λ (j : Member r (map copy_of xs)). of_copies r xs j)
  where
    go : (r ≡ x.copy) ⊎ Member r (map copy_of xs) → (Member r (map copy_of xs) → (m : Made) × Member m xs × (m.copy ≡ r))
        → (m : Made) × Member m (x ∷ xs) × (m.copy ≡ r)
    go (inl e) f = (x, here refl, sym e)
    go (inr j) f = let y = f j in (y.0, there y.1, y.2)

-- THE NUMBERS
from_append : (a n k : ℕ) → from a (n + k) ≡ from a n ++ from (a + n) k
unfolding from
from_append a zero k = let z : 0 + k ≡ k = omega arith in let y : a + 0 ≡ a = omega arith in rw (z, y)
from_append a (suc n) k =
    let z : suc n + k ≡ suc (n + k) = omega arith in
    let y : a + suc n ≡ a + 1 + n = omega arith in
    rw (z, y, from_append (a + 1) n k)

copies_numbers : (later : List Change) (m : Letter) (q : ℕ) (ds : List ℕ) → map seq_of (map (followed later) (copies m q ds)) ≡ from (q + 1) (length (copies m q ds))
unfolding copies from
copies_numbers later m q [] = refl
copies_numbers later m q (d ∷ ds) = ap (λ (l : List ℕ). (q + 1) ∷ l) (copies_numbers later m (q + 1) ds)

makes_numbers : (fate : Draws) (o : Options) (q : ℕ) (c : Change) (later : List Change)
    → map seq_of (map (followed later) (makes fate o q c)) ≡ from (q + 1) (length (makes fate o q c))
unfolding makes from
makes_numbers fate o q (send m draws extras) later = copies_numbers later m q (dues (fate o m.now m.kind draws extras))
makes_numbers fate o q (collect now room) later = refl
makes_numbers fate o q (choose p) later = refl

made_numbers : (fate : Draws) (o : Options) (q : ℕ) (st : List Change) → map seq_of (made fate o q st) ≡ from (q + 1) (length (made fate o q st))
unfolding made from
made_numbers fate o q [] = refl
made_numbers fate o q (c ∷ later) =
    let rs : List Record = makes fate o q c in
    let ms : List Made = made fate (options_by o c) (q + length rs) later in
    let l : length (map (followed later) rs ++ ms) ≡ length rs + length ms = omega (arith, length-append (map (followed later) rs) ms, length-map rs (followed later)) in
    let z : q + length rs + 1 ≡ q + 1 + length rs = omega arith in
    let h : map seq_of ms ≡ from (q + 1 + length rs) (length ms) = rw (← z) (made_numbers fate (options_by o c) (q + length rs) later) in
    map-append seq_of (map (followed later) rs) ms
    ∙ rw (l, from_append (q + 1) (length rs) (length ms), h, makes_numbers fate o q c later)

-- THE THEOREM
exactly_rule : (fate : Draws) (o : Options) (st : List Change) (l : List Record) → l ≡ sorted_copies fate o st → rising l ≡ true
    → Exactly (made fate o 0 st) l
exactly_rule fate o st l e h =
    let ms : List Made = made fate o 0 st in
    record {
      rises = h;
      all =
          λ (m : Made) (p : Member m ms) (q : waits m ≡ true).
          subst (λ (x : List Record). Member m.copy x) (sym e)
          (in_insert_all m.copy (map copy_of (keep waits ms)) [] (in_copies m (keep waits ms) (in_keep waits m ms q p)));
      only = λ (r : Record) (p : Member r l). found r (of_insert_all r (map copy_of (keep waits ms)) [] (subst (λ (x : List Record). Member r x) e p));
      numbers = made_numbers fate o 0 st;
    }
  where
    found : (r : Record) → Member r (map copy_of (keep waits (made fate o 0 st))) ⊎ Member r []
        → (m : Made) × Member m (made fate o 0 st) × (waits m ≡ true) × (m.copy ≡ r)
    found r (inl p) =
        let a = of_copies r (keep waits (made fate o 0 st)) p in
        let b = of_keep waits a.0 (made fate o 0 st) a.1 in
        (a.0, b.1, b.0, a.2)
    found r (inr p) = absurd (not-nil p)

pub the_pending_are_exactly : (fate : Draws) (o : Options) (good : good_options o ≡ true) (rest : List ℕ) (cs : List Call)
    → Exactly (made fate o 0 (stands fate o rest cs)) (ran fate o rest cs).net.pending
the_pending_are_exactly fate o good rest cs =
    let st : List Change = stack fate o rest cs in
    let n : Plain = (ran fate o rest cs).net in
    let e : n ≡ replay fate o st = fold_of_standing fate o good rest cs in
    let h : rising n.pending ≡ true = rw e (rises_of (replay fate o st) (good_replay fate o st) (fit_replay fate o st good (all_sound fate o good rest cs))) in
    exactly_rule fate o (stands fate o rest cs) n.pending (the_pending_are_sorted fate o good rest cs) h

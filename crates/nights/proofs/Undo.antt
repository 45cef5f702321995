-- Step 1: what a call writes undoes it, field for field, from the words alone. Assumes nothing.
use Prim.Native.Nat.{ℕ, zero, suc, ◌+◌, ◌-◌, ◌*◌, ◌/◌, ◌≤◌, ◌<◌}
use mathlib.Core.Path.{◌≡◌, refl, sym, ap, ◌∙◌}
use mathlib.Core.List.{List, [], ◌∷◌, ◌++◌, append_assoc}
use mathlib.Core.Bool.{Bool, true, false}
use native.Mathlib.Omega.{arith}
use borrow.Author.Tests.{le-leb, lt-leb, eq-eqb}
use lib.Dec.{leb, eqb}
use lib.ListN.{length, get_or, drop, length-append}
use lib.Seq.{get_or-append-add}
use Rattle.nights.specs.Record.{Record, words, record_words, record_at, recs}
use Rattle.basis.specs.Basis.{bit}
use Rattle.nights.specs.Net.{Options, Plain, keep, insert_all, Fate, dues, Draws, Letter, copies, Change, send, collect, choose, is_due, is_later, send_one, take_due, set_options, effect, good_options}
use Rattle.nights.specs.Journal.{undo_words, undone, unsend, untake, undo_as, undo_one, checked, further, undo_all}
use Rattle.nights.proofs.Folding.{replay, flat}
use Rattle.nights.proofs.Order.{All, all_map, length_split, keep_all, rejoin, unseen_all}
use Rattle.nights.proofs.Good.{Good, good_replay, copies_above, Sound, fit_replay, well_formed_replay}

-- READING: a word behind a part of known length
read : (w pre tail : List ℕ) (b i : ℕ) → w ≡ pre ++ tail → length pre ≡ b → get_or w (b + i) 0 ≡ get_or tail i 0
read w pre tail b i e h =
    ap (λ (x : List ℕ). get_or x (b + i) 0) e ∙ (ap (λ (x : ℕ). get_or (pre ++ tail) (x + i) 0) (sym h) ∙ get_or-append-add pre tail i 0)

read_first : (w pre tail : List ℕ) (b : ℕ) → w ≡ pre ++ tail → length pre ≡ b → get_or w b 0 ≡ get_or tail 0 0
read_first w pre tail b e h = let z : b ≡ b + 0 = omega arith in ap (λ (x : ℕ). get_or w x 0) z ∙ read w pre tail b 0 e h

pub length-record_words : (rs : List Record) → length (record_words rs) ≡ 8 * length rs
unfolding record_words
length-record_words [] = refl
length-record_words (x ∷ xs) = let h = length-record_words xs in omega arith

record_read : (x : Record) (w pre tail : List ℕ) (b : ℕ) → w ≡ pre ++ (words x ++ tail) → length pre ≡ b → record_at w b ≡ x
record_read x w pre tail b e h =
    rw (
      read_first w pre (words x ++ tail) b e h,
      read w pre (words x ++ tail) b 1 e h,
      read w pre (words x ++ tail) b 2 e h,
      read w pre (words x ++ tail) b 3 e h,
      read w pre (words x ++ tail) b 4 e h,
      read w pre (words x ++ tail) b 5 e h,
      read w pre (words x ++ tail) b 6 e h,
      read w pre (words x ++ tail) b 7 e h,
    )

pub recs_read : (rs : List Record) (w pre tail : List ℕ) (b : ℕ) → w ≡ pre ++ (record_words rs ++ tail) → length pre ≡ b → recs w b (length rs) ≡ rs
unfolding recs record_words
recs_read [] w pre tail b e h = refl
recs_read (x ∷ xs) w pre tail b e h =
    let f : w ≡ pre ++ (words x ++ (record_words xs ++ tail)) = e in
    let g : w ≡ (pre ++ words x) ++ (record_words xs ++ tail) = f ∙ sym (append_assoc pre (words x) (record_words xs ++ tail)) in
    rw (record_read x w pre (record_words xs ++ tail) b f h, recs_read xs w (pre ++ words x) tail (b + 8) g (omega (arith, length-append pre (words x))))

-- the sort and the length are the last two words
undo_at : (n : Plain) (w : List ℕ) (e k z b : ℕ) → get_or w (e - 2) 0 ≡ k → get_or w (e - 1) 0 ≡ z → e - z ≡ b → undo_one n w e ≡ undo_as k z b n w e
unfolding undo_one
undo_at n w e k z b p q r = rw (p, q, r)

-- A SEND
unsend_is : (m : Letter) (f : Fate) (n : Plain) → Good n → unsend n.seq n.lost n.replayed n.delayed (send_one m f n) ≡ n
unsend_is m f n g =
    let new : List Record = copies m n.seq (dues f) in
    let old : Record → Bool = λ (x : Record). leb x.seq n.seq in
    let a : All (λ (x : Record). old x ≡ false) new =
    all_map (λ (x : Record) (h : n.seq < x.seq). lt-leb x.seq n.seq h) new (copies_above m n.seq n.seq (dues f) (omega arith)) in
    let b : All (λ (x : Record). old x ≡ true) n.pending =
    all_map (λ (x : Record) (h : x.seq ≤ n.seq). le-leb x.seq n.seq h) n.pending g.numbered in
    let p : keep old (insert_all new n.pending) ≡ n.pending = unseen_all old new n.pending a ∙ keep_all old n.pending b in
    let s : n.sent + 1 - 1 ≡ n.sent = omega arith in
    rw (p, s)

undo_send : (m : Letter) (f : Fate) (n : Plain) (w pre rest : List ℕ) (b e : ℕ) → Good n
    → w ≡ pre ++ (n.seq ∷ n.lost ∷ n.replayed ∷ n.delayed ∷ 1 ∷ 6 ∷ rest) → length pre ≡ b → 2 ≤ b → e ≡ b + 6
    → undo_one (send_one m f n) w e ≡ undone n b
unfolding undo_as
undo_send m f n w pre rest b e g q h l j =
    let tail : List ℕ = n.seq ∷ n.lost ∷ n.replayed ∷ n.delayed ∷ 1 ∷ 6 ∷ rest in
    let x : e - 2 ≡ b + 4 = omega arith in
    let y : e - 1 ≡ b + 5 = omega arith in
    undo_at (send_one m f n) w e 1 6 b (rw (x, read w pre tail b 4 q h)) (rw (y, read w pre tail b 5 q h)) (omega arith)
    ∙ rw (
      le-leb 8 e (omega arith),
      le-leb 1 (n.sent + 1) (omega arith),
      read_first w pre tail b q h,
      read w pre tail b 1 q h,
      read w pre tail b 2 q h,
      read w pre tail b 3 q h,
      unsend_is m f n g,
    )

-- A TAKE
untake_is : (now : ℕ) (n : Plain) → Good n → untake (keep (is_due now) n.pending) (take_due now n) ≡ n
untake_is now n g =
    let t : ℕ = length (keep (is_due now) n.pending) in
    let p : insert_all (keep (is_due now) n.pending) (keep (is_later now) n.pending) ≡ n.pending = rejoin (is_due now) n.pending g.ordered in
    let s : n.delivered + t - t ≡ n.delivered = omega arith in
    rw (p, s)

undo_take : (now : ℕ) (n : Plain) (w pre rest : List ℕ) (b e : ℕ) → Good n → length n.pending ≤ 128
    → w ≡ pre ++ (record_words (keep (is_due now) n.pending) ++ (2 ∷ (8 * length (keep (is_due now) n.pending) + 2) ∷ rest))
    → length pre ≡ b → 2 ≤ b → e ≡ b + (8 * length (keep (is_due now) n.pending) + 2)
    → undo_one (take_due now n) w e ≡ undone n b
unfolding undo_as
undo_take now n w pre rest b e g u q h l j =
    let rs : List Record = keep (is_due now) n.pending in
    let t : ℕ = length rs in
    let tail : List ℕ = 2 ∷ (8 * t + 2) ∷ rest in
    let f : w ≡ (pre ++ record_words rs) ++ tail = q ∙ sym (append_assoc pre (record_words rs) tail) in
    let k : length (pre ++ record_words rs) ≡ b + 8 * t = omega (arith, length-append pre (record_words rs), length-record_words rs) in
    let x : e - 2 ≡ b + 8 * t = omega arith in
    let y : e - 1 ≡ b + 8 * t + 1 = omega arith in
    let z : (8 * t + 2 - 2) / 8 ≡ t = omega arith in
    undo_at (take_due now n) w e 2 (8 * t + 2) b
    (rw (x, read_first w (pre ++ record_words rs) tail (b + 8 * t) f k))
    (rw (y, read w (pre ++ record_words rs) tail (b + 8 * t) 1 f k))
    (omega arith)
    ∙ rw (
      z,
      eq-eqb (8 * t + 2) (8 * t + 2) refl,
      le-leb (2 + (8 * t + 2)) e (omega arith),
      le-leb t (n.delivered + t) (omega arith),
      le-leb (length (keep (is_later now) n.pending) + t) 128 (omega (arith, length_split (is_due now) n.pending)),
      recs_read rs w pre tail b q h,
      untake_is now n g,
    )

-- AN OPTION CHANGE
pub eqb-bit : (b : Bool) → eqb (bit b) 1 ≡ b
eqb-bit true = refl
eqb-bit false = refl

pub leb-bit : (b : Bool) → leb (bit b) 1 ≡ true
leb-bit true = refl
leb-bit false = refl

undo_choose : (o : Options) (n : Plain) (w pre rest : List ℕ) (b e : ℕ)
    → w ≡ pre ++ (n.options.loss ∷ n.options.replay ∷ n.options.least ∷ n.options.mean ∷ bit n.options.faulted ∷ 3 ∷ 7 ∷ rest)
    → length pre ≡ b → 2 ≤ b → e ≡ b + 7
    → undo_one (set_options o n) w e ≡ undone n b
unfolding undo_as
undo_choose o n w pre rest b e q h l j =
    let tail : List ℕ = n.options.loss ∷ n.options.replay ∷ n.options.least ∷ n.options.mean ∷ bit n.options.faulted ∷ 3 ∷ 7 ∷ rest in
    let x : e - 2 ≡ b + 5 = omega arith in
    let y : e - 1 ≡ b + 6 = omega arith in
    undo_at (set_options o n) w e 3 7 b (rw (x, read w pre tail b 5 q h)) (rw (y, read w pre tail b 6 q h)) (omega arith)
    ∙ rw (
      le-leb 9 e (omega arith),
      read_first w pre tail b q h,
      read w pre tail b 1 q h,
      read w pre tail b 2 q h,
      read w pre tail b 3 q h,
      read w pre tail b 4 q h,
      leb-bit n.options.faulted,
      eqb-bit n.options.faulted,
    )

-- ANY CALL
pub undo_call : (fate : Draws) (c : Change) (n : Plain) (w pre rest : List ℕ) (e : ℕ) → Good n → length n.pending ≤ 128
    → w ≡ pre ++ (undo_words c n ++ rest) → 2 ≤ length pre → e ≡ length pre + length (undo_words c n)
    → undo_one (effect fate c n) w e ≡ undone n (length pre)
unfolding effect undo_words
undo_call fate (send m draws extras) n w pre rest e g u q l j =
    undo_send m (fate n.options m.now m.kind draws extras) n w pre rest (length pre) e g q refl l j
undo_call fate (collect now room) n w pre rest e g u q l j =
    let rs : List Record = keep (is_due now) n.pending in
    let z : List ℕ = 2 ∷ (8 * length rs + 2) ∷ [] in
    undo_take now n w pre rest (length pre) e g u
    (q ∙ ap (λ (x : List ℕ). pre ++ x) (append_assoc (record_words rs) z rest))
    refl l
    (omega (arith, j, length-append (record_words rs) z, length-record_words rs))
undo_call fate (choose o) n w pre rest e g u q l j = undo_choose o n w pre rest (length pre) e q refl l j

-- MANY CALLS
module _ (fate : Draws) (o : Options) (kept : List Change) (h₀ h₁ : ℕ) (good : good_options o ≡ true) where
  pub undo_many : (k : ℕ) (recent : List Change) (rest : List ℕ) → k ≤ length recent → Sound fate o (recent ++ kept)
      → undo_all k (replay fate o (recent ++ kept)) (h₀ ∷ h₁ ∷ (flat fate o kept recent ++ rest)) (suc (suc (length (flat fate o kept recent))))
      ≡ undone (replay fate o (drop k recent ++ kept)) (suc (suc (length (flat fate o kept (drop k recent)))))
  unfolding undo_all flat replay checked further
  undo_many zero recent rest h s = refl
  undo_many (suc k) [] rest h s = absurd (omega arith)
  undo_many (suc k) (c ∷ recent) rest h s =
      let n : Plain = replay fate o (recent ++ kept) in
      let front : List ℕ = flat fate o kept recent in
      let u : List ℕ = undo_words c n in
      let w : List ℕ = h₀ ∷ h₁ ∷ ((front ++ u) ++ rest) in
      let q : w ≡ (h₀ ∷ h₁ ∷ front) ++ (u ++ rest) = ap (λ (x : List ℕ). h₀ ∷ h₁ ∷ x) (append_assoc front u rest) in
      let one : undo_one (effect fate c n) w (suc (suc (length (front ++ u)))) ≡ undone n (suc (suc (length front))) =
      undo_call fate c n w (h₀ ∷ h₁ ∷ front) rest (suc (suc (length (front ++ u))))
      (good_replay fate o (recent ++ kept))
      (fit_replay fate o (recent ++ kept) good s.1).small
      q (omega arith) (omega (arith, length-append front u)) in
      rw (one, well_formed_replay fate o (recent ++ kept) good s.1, q) (undo_many k recent (u ++ rest) (omega arith) s.1)

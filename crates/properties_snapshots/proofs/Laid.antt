-- Laws of words laid over a list. Assumes nothing.
use native.Mathlib.Omega.{arith}
use native.Mathlib.Numerals.{add-one}
use native.Mathlib.Nat.{add-zero}
use mathlib.Core.List.{List, [], ◌∷◌, ◌++◌, append_assoc}
use mathlib.Core.Path.{◌≡◌, refl, sym, ap, ◌∙◌}
use Prim.Native.Nat.{ℕ, zero, suc, ◌+◌, ◌-◌, ◌≤◌, ◌<◌}
use lib.ListN.{length, get_or, set, take, drop, length-append, length-take, length-drop, take-append-drop, get_or-append}
use lib.Seq.{set_split, length-take-le, drop-drop, take_at, drop-append-add, get_or-take, get_or-drop, get_or-append-add, set-get_or}
use Rattle.properties_snapshots.specs.Below.{numbered}
use Rattle.basis.specs.Basis.{laid}
use Rattle.properties_snapshots.proofs.Below.{length-numbered, numbered_more, numbered_none}

-- nothing laid changes nothing
pub laid_none : (w : List ℕ) (a : ℕ) → laid w a [] ≡ w
laid_none w a = rw add-zero (take-append-drop a w)

-- the length stays
pub length-laid : (w : List ℕ) (a : ℕ) (vs : List ℕ) → a + length vs ≤ length w → length (laid w a vs) ≡ length w
length-laid w a vs h = simp (length-append, length-take, length-drop) (omega arith)

-- what is laid behind something laid is laid with it
pub laid_on : (w : List ℕ) (a : ℕ) (vs us : List ℕ) (b : ℕ) → a + length vs ≤ length w → b ≡ a + length vs
    → laid (laid w a vs) b us ≡ laid w a (vs ++ us)
laid_on w a vs us b h e =
    let front = take a w ++ vs in
    let rest = drop (a + length vs) w in
    let long : length (take a w ++ vs) ≡ b = length-append (take a w) vs ∙ (ap (λ (k : ℕ). k + length vs) (length-take-le a w (omega arith)) ∙ sym e) in
    let split : laid w a vs ≡ front ++ rest = sym (append_assoc (take a w) vs rest) in
    let total : a + length vs + length us ≡ a + length (vs ++ us) = omega (arith, length-append vs us) in
    let after : drop (b + length us) (front ++ rest) ≡ drop (a + length (vs ++ us)) w =
    ap (λ (k : ℕ). drop (k + length us) (front ++ rest)) (sym long)
    ∙ (drop-append-add front rest (length us)
    ∙ (drop-drop (length us) (a + length vs) w ∙ ap (λ (k : ℕ). drop k w) total)) in
    ap (λ (x : List ℕ). take b x ++ (us ++ drop (b + length us) x)) split
    ∙ (ap (λ (x : List ℕ). x ++ (us ++ drop (b + length us) (front ++ rest))) (take_at front rest b long)
    ∙ (ap (λ (x : List ℕ). front ++ (us ++ x)) after
    ∙ (append_assoc (take a w) vs (us ++ drop (a + length (vs ++ us)) w)
    ∙ ap (λ (x : List ℕ). take a w ++ x) (sym (append_assoc vs us (drop (a + length (vs ++ us)) w))))))

-- a single word
pub laid-set : (w : List ℕ) (a v : ℕ) → a < length w → set w a v ≡ laid w a (v ∷ [])
laid-set w a v h =
    let z : suc a ≡ a + 1 = omega arith in
    set_split w a v h ∙ ap (λ (k : ℕ). take a w ++ (v ∷ drop k w)) z

-- a word before what is laid
pub laid_below : (w : List ℕ) (a : ℕ) (vs : List ℕ) (k d : ℕ) → k < a → a ≤ length w → get_or (laid w a vs) k d ≡ get_or w k d
laid_below w a vs k d h l =
    get_or-append (take a w) (vs ++ drop (a + length vs) w) d k (omega (arith, length-take-le a w l)) ∙ get_or-take a w k d h

-- one word more behind what is laid
pub laid_next : (w : List ℕ) (a : ℕ) (vs : List ℕ) (b v : ℕ) → b ≡ a + length vs → b < length w → set (laid w a vs) b v ≡ laid w a (vs ++ (v ∷ []))
laid_next w a vs b v e h =
    laid-set (laid w a vs) b v (omega (arith, length-laid w a vs (omega arith))) ∙ laid_on w a vs (v ∷ []) b (omega arith) e

-- one word more of a list by its places, as a loop writes it
pub laid-numbered : (w : List ℕ) (a : ℕ) (f : ℕ → ℕ) (m b v : ℕ) → b ≡ a + m → b < length w → v ≡ f m
    → set (laid w a (numbered m f)) b v ≡ laid w a (numbered (m + 1) f)
laid-numbered w a f m b v e h g =
    laid_next w a (numbered m f) b v (omega (arith, length-numbered m f)) h
    ∙ (ap (λ (x : ℕ). laid w a (numbered m f ++ (x ∷ []))) g ∙ ap (laid w a) (sym (numbered_more m f)))

pub laid_start : (w : List ℕ) (a : ℕ) (f : ℕ → ℕ) (m : ℕ) → m ≡ 0 → w ≡ laid w a (numbered m f)
laid_start w a f m e = rw (e, numbered_none f) (sym (laid_none w a))

-- the first word by itself
pub laid_first : (w : List ℕ) (a x : ℕ) (vs : List ℕ) → a < length w → laid (set w a x) (a + 1) vs ≡ laid w a (x ∷ vs)
laid_first w a x vs h =
    ap (λ (u : List ℕ). laid u (a + 1) vs) (laid-set w a x h) ∙ laid_on w a (x ∷ []) vs (a + 1) (omega arith) refl

-- the words that stand there already
pub laid_same : (w : List ℕ) (a m : ℕ) → a + m ≤ length w → laid w a (numbered m (λ k. get_or w (a + k) 0)) ≡ w
laid_same w a zero h = sym (laid_start w a (λ k. get_or w (a + k) 0) zero refl)
laid_same w a (suc m) h =
    let f : ℕ → ℕ = λ k. get_or w (a + k) 0 in
    ap (λ (k : ℕ). laid w a (numbered k f)) (sym (add-one m))
    ∙ (sym (laid-numbered w a f m (a + m) (f m) refl (omega arith) refl)
    ∙ (ap (λ (x : List ℕ). set x (a + m) (f m)) (laid_same w a m (omega arith)) ∙ set-get_or w (a + m) 0))

-- a word behind what is laid
pub laid_above : (w : List ℕ) (a : ℕ) (vs : List ℕ) (k : ℕ) → a + length vs ≤ k → a + length vs ≤ length w → get_or (laid w a vs) k 0 ≡ get_or w k 0
laid_above w a vs k h l =
    let front = take a w ++ vs in
    let long : length (take a w ++ vs) ≡ a + length vs = length-append (take a w) vs ∙ ap (λ (j : ℕ). j + length vs) (length-take-le a w (omega arith)) in
    let y : k ≡ length (take a w ++ vs) + (k - (a + length vs)) = omega arith in
    let z : a + length vs + (k - (a + length vs)) ≡ k = omega arith in
    ap (λ (x : List ℕ). get_or x k 0) (sym (append_assoc (take a w) vs (drop (a + length vs) w)))
    ∙ (ap (λ (j : ℕ). get_or (front ++ drop (a + length vs) w) j 0) y
    ∙ (get_or-append-add front (drop (a + length vs) w) (k - (a + length vs)) 0
    ∙ (get_or-drop (a + length vs) w (k - (a + length vs)) 0 ∙ ap (λ (j : ℕ). get_or w j 0) z)))

-- a word of what is laid
pub laid_within : (w : List ℕ) (a : ℕ) (vs : List ℕ) (k : ℕ) → k < length vs → a ≤ length w → get_or (laid w a vs) (a + k) 0 ≡ get_or vs k 0
laid_within w a vs k h l =
    let y : a + k ≡ length (take a w) + k = omega (arith, length-take-le a w l) in
    ap (λ (j : ℕ). get_or (laid w a vs) j 0) y
    ∙ (get_or-append-add (take a w) (vs ++ drop (a + length vs) w) k 0 ∙ get_or-append vs (drop (a + length vs) w) 0 k h)

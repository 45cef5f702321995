-- The sends one after the other: one more of them, and where they stop. Assumes nothing.
use Prim.Native.Nat.{ℕ, zero, suc, ◌+◌, ◌-◌, ◌≤◌, ◌<◌}
use mathlib.Core.Path.{◌≡◌, refl, sym, ap, ◌∙◌}
use mathlib.Core.Bool.{true}
use mathlib.Core.List.{List}
use native.Mathlib.Omega.{arith}
use native.Mathlib.Numerals.{add-one}
use lib.ListN.{length, take, drop, length-drop}
use lib.Seq.{take_all}
use Rattle.std.specs.Prelude.{Result}
use Rattle.nights.specs.Net.{Letter, send}
use Rattle.network_options.specs.declared.Refusal.{Refusal}
use Rattle.network_send.specs.declared.Accepted.{Accepted}
use Rattle.network_send.specs.Sends.{sent_of, send_tells}
use Rattle.nights.specs.Tests.{Answer, done, refused}
use Rattle.network_form.specs.declared.Head.{Head}
use Rattle.network_form.specs.Forms.{formed_in}
use Rattle.network_form.specs.Calls.{answer_in, head_after, records_after}
use Rattle.network_batch.specs.Ticks.{all, stopped, unless_refused, letter_at, call_at, drawn_by, sends_from}
use Rattle.network_batch.proofs.Using.{send_number}

-- what is left of a list, lent up to its end
pub rest : (l : List ℕ) (n : ℕ) → take (length l - n) (drop n l) ≡ drop n l
rest l n = take_all (length l - n) (drop n l) (omega (arith, length-drop n l))

pub within_left : (l : List ℕ) (d n k : ℕ) → d ≤ length l → n ≡ k → k ≤ length (drop d l) → d + n ≤ length l
within_left l d n k h e f = omega (arith, length-drop d l)

pub formed_again : (h t : Head) (w v : List ℕ) → t ≡ h → v ≡ w → formed_in h w ≡ true → formed_in t v ≡ true
formed_again h t w v p q o = rw (p, q) o

-- a refusal's number and place
pub record Stop (place left k p : ℕ) : Type 0 where
  pub number : k ≤ 33
  pub within : p < place + left

module _ (sends draws extras : List ℕ) where
  -- ---- one more
  module _ (left place d x : ℕ) (h : Head) (w : List ℕ) where
    pub goes_on : answer_in (call_at sends draws extras place d x) h w ≡ done
        → sends_from sends draws extras (suc left) place d x h w
        ≡ sends_from sends draws extras left (suc place) (d + (drawn_by sends draws extras place d x h).draws) (x + (drawn_by sends draws extras place d x h).extras)
        (head_after (call_at sends draws extras place d x) h w) (records_after (call_at sends draws extras place d x) h w)
    unfolding sends_from unless_refused
    goes_on e = rw e

    pub stops : (k : ℕ) → answer_in (call_at sends draws extras place d x) h w ≡ refused k → sends_from sends draws extras (suc left) place d x h w ≡ stopped k place
    unfolding sends_from unless_refused
    stops k e = rw e

  -- ---- a turn at a place
  module _ (count i d x : ℕ) (h : Head) (w : List ℕ) where
    pub turn_goes : i < count → answer_in (call_at sends draws extras i d x) h w ≡ done
        → (n m : ℕ) → n ≡ (drawn_by sends draws extras i d x h).draws → m ≡ (drawn_by sends draws extras i d x h).extras
        → (t : Head) (v : List ℕ) → t ≡ head_after (call_at sends draws extras i d x) h w → v ≡ records_after (call_at sends draws extras i d x) h w
        → sends_from sends draws extras (count - i) i d x h w ≡ sends_from sends draws extras (count - (i + 1)) (i + 1) (d + n) (x + m) t v
    turn_goes q a n m p u t v r y =
        let z : count - i ≡ suc (count - (i + 1)) = omega arith in
        ap (λ (k : ℕ). sends_from sends draws extras k i d x h w) z
        ∙ (goes_on (count - (i + 1)) i d x h w a ∙ rw (add-one i, p, u, r, y))

    pub turn_stops : i < count → (k : ℕ) → answer_in (call_at sends draws extras i d x) h w ≡ refused k → sends_from sends draws extras (count - i) i d x h w ≡ stopped k i
    turn_stops q k a =
        let z : count - i ≡ suc (count - (i + 1)) = omega arith in
        ap (λ (j : ℕ). sends_from sends draws extras j i d x h w) z ∙ stops (count - (i + 1)) i d x h w k a

    pub all_sent : count ≤ i → sends_from sends draws extras (count - i) i d x h w ≡ all h w d x
    unfolding sends_from
    all_sent q = let z : count - i ≡ 0 = omega arith in rw z

  -- ---- where they stop
  pub stop : (left place d x : ℕ) (h : Head) (w : List ℕ) (k p : ℕ) → sends_from sends draws extras left place d x h w ≡ stopped k p → Stop place left k p
  unfolding sends_from
  stop zero place d x h w k p e = let z : ◌≡◌ {A = ℕ} 0 1 = cc in absurd (omega arith)
  stop (suc left) place d x h w k p e =
      go (answer_in (call_at sends draws extras place d x) h w) refl (λ q. stop left (suc place) _ _ _ _ k p (sym (goes_on left place d x h w q) ∙ e))
    where
      go : (a : Answer) → answer_in (call_at sends draws extras place d x) h w ≡ a
          → (answer_in (call_at sends draws extras place d x) h w ≡ done → Stop (suc place) left k p) → Stop place (suc left) k p
      go done q more = let r = more q in record { number = r.number; within = omega (arith, r.within) }
      go (refused j) q more =
          let r : stopped j place ≡ stopped k p = sym (stops left place d x h w j q) ∙ e in
          let y : j ≡ k = cc in
          let z : place ≡ p = cc in
          record { number = omega (arith, send_number (letter_at sends place) (drop d draws) (drop x extras) h w j q); within = omega arith }

-- ---- what the code's send of a message leaves and tells

abbrev pub Made : (t : Head) (v : List ℕ) (s : Result Accepted Refusal) (h : Head) (w : List ℕ) → Letter → (draws extras : List ℕ) → Type 0
Made t v s h w m draws extras =
    (t ≡ head_after (send m draws extras) h w)
    × ((v ≡ records_after (send m draws extras) h w) × (sent_of s ≡ send_tells m draws extras h w))

pub made_of : (t : Head) (v : List ℕ) (s : Result Accepted Refusal) (h : Head) (w : List ℕ) (m n : Letter) (d e x y : List ℕ)
    → m ≡ n → d ≡ e → x ≡ y → Made t v s h w m d x → Made t v s h w n e y
made_of t v s h w m n d e x y p q r a = rw (sym p, sym q, sym r) a

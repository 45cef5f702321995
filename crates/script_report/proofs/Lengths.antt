-- How long the pieces of a report are at most: 20 digits to a number, 9 bytes to a name, 66 to an event. Assumes nothing.
use mathlib.Core.Bool.{Bool, true, false, cond}
use mathlib.Core.List.{List, [], ◌∷◌, ◌++◌}
use mathlib.Core.Path.{◌≡◌}
use Prim.Native.Nat.{ℕ, zero, suc, ◌+◌, ◌*◌, ◌/◌, ◌≤◌}
use native.Mathlib.Omega.{arith}
use lib.Dec.{eqb, ltb}
use lib.ListN.{length, length-append}
use Rattle.numeral.specs.Writing.{digit_count, decimal}
use Rattle.numeral.proofs.Decimal.{length-last_digits}
use Rattle.order.specs.Order.{Event}
use Rattle.script.specs.Faults.{crash, restart, reboot, partition, heal, heal_all}
use Rattle.script_report.specs.Report.{number_line, tick_key, id_key, name_of, fault_line, id_line, event_text, events_text}

count_bound : (b : Bool) (d k : ℕ) → d ≤ suc k → cond b 1 (suc d) ≤ suc (suc k)
count_bound true d k h = omega arith
count_bound false d k h = omega arith

count_most : (k n : ℕ) → digit_count k n ≤ suc k
unfolding digit_count
count_most zero n = omega arith
count_most (suc k) n = count_bound (ltb n 10) (digit_count k (n / 10)) k (count_most k (n / 10))

pub decimal_most : (n : ℕ) → length (decimal n) ≤ 20
unfolding decimal
decimal_most n = omega (arith, length-last_digits (digit_count 19 n) n, count_most 19 n)

pub number_line_lem : (key : List ℕ) (n : ℕ) → length (number_line key n) ≡ length key + length (decimal n) + 1
number_line_lem key n = omega (arith, length-append key (decimal n ++ 10 ∷ []), length-append (decimal n) (10 ∷ []))

pub line_most : (key : List ℕ) (n : ℕ) → length (number_line key n) ≤ length key + 21
line_most key n = omega (arith, number_line_lem key n, decimal_most n)

one_of : (b : Bool) (x y : List ℕ) → length x ≤ 9 → length y ≤ 9 → length (cond b x y) ≤ 9
one_of true x y h k = h
one_of false x y h k = k

pub name_most : (n : ℕ) → length (name_of n) ≤ 9
unfolding name_of
name_most n =
    one_of (eqb n 0) crash _ (omega arith)
    (one_of (eqb n 1) restart _ (omega arith)
    (one_of (eqb n 2) reboot _ (omega arith)
    (one_of (eqb n 3) partition _ (omega arith) (one_of (eqb n 4) heal heal_all (omega arith) (omega arith)))))

pub fault_line_lem : (n : ℕ) → length (fault_line n) ≡ 7 + length (name_of n)
unfolding fault_line
fault_line_lem n = omega (arith, length-append (name_of n) (10 ∷ []))

id_bound : (b : Bool) (id : ℕ) → length (cond b [] (number_line id_key id)) ≤ 24
id_bound true id = omega arith
id_bound false id = omega (arith, number_line_lem id_key id, decimal_most id)

pub event_most : (e : Event) → length (event_text e) ≤ 66
unfolding event_text id_line
event_most e =
    let i = cond (eqb e.fault 5) [] (number_line id_key e.id) in
    omega (
      arith,
      length-append (number_line tick_key e.tick) (fault_line e.fault ++ i),
      length-append (fault_line e.fault) i,
      number_line_lem tick_key e.tick,
      decimal_most e.tick,
      fault_line_lem e.fault,
      name_most e.fault,
      id_bound (eqb e.fault 5) e.id,
    )

pub events_most : (es : List Event) → length (events_text es) ≤ 66 * length es
unfolding events_text
events_most [] = omega arith
events_most (e ∷ es) = omega (arith, length-append (event_text e) (events_text es), event_most e, events_most es)

-- Counting and listing what is pending, test by test: what a refused one tells, and what an accepted one does. Assumes nothing.
use mathlib.Core.Path.{◌≡◌, refl, sym, ap, ◌∙◌}
use mathlib.Core.List.{List, ◌++◌}
use mathlib.Core.Bool.{Bool, true, false}
use Prim.Native.Nat.{ℕ, ◌*◌, ◌≤◌, ◌<◌}
use native.Mathlib.Omega.{arith}
use borrow.Author.Tests.{le-leb, lt-leb}
use lib.ListN.{length, take, drop}
use Rattle.nights.specs.Record.{record_size, record_words, recs}
use Rattle.nights.specs.Tests.{done, refused, if_done, verdict}
use Rattle.nights.proofs.Undo.{length-record_words}
use Rattle.network_queue.specs.Packed.{array_size}
use Rattle.network_queue.proofs.Inserting.{length-recs, record_words-recs}
use Rattle.network_form.specs.declared.Head.{Head}
use Rattle.network_form.specs.Forms.{formed_in}
use Rattle.network_form.specs.Calls.{form_answer, list_answer}
use Rattle.network_form.proofs.Maps.{small}
use Rattle.network_take.specs.Takes.{Count, counting, count_tells, list_tells, list_gives}

module _ (h : Head) (w : List ℕ) where
  many : length (recs w 0 h.pending) ≡ h.pending
  many = length-recs w 0 h.pending

  -- ---- counting

  pub not_counted : formed_in h w ≡ false → ◌≡◌ {A = Count} (record { answer = refused 23; records = 0 }) (count_tells h w)
  unfolding form_answer verdict counting
  not_counted e = rw e

  pub is_counted : formed_in h w ≡ true → ◌≡◌ {A = Count} (record { answer = done; records = h.pending }) (count_tells h w)
  unfolding form_answer verdict counting
  is_counted e = rw (e, many)

  -- what a count tells is what it found
  pub counted_formed : (n : ℕ) → ◌≡◌ {A = Count} (record { answer = done; records = n }) (count_tells h w)
      → (formed_in h w ≡ true) × (n ≡ h.pending)
  counted_formed n e = go (formed_in h w) refl
    where
      go : (b : Bool) → formed_in h w ≡ b → (formed_in h w ≡ true) × (n ≡ h.pending)
      go true f = (f, ap (λ (x : Count). x.records) (e ∙ sym (is_counted f)))
      go false f =
          let p : done ≡ refused 23 = ap (λ (x : Count). x.answer) (e ∙ sym (not_counted f)) in
          let z : ◌≡◌ {A = ℕ} 0 1 = cc in absurd (omega arith)

  -- ---- listing

  module _ (out : List ℕ) where
    unlisted : (k : ℕ) → list_answer h w (length out) ≡ refused k
        → (◌≡◌ {A = Count} (record { answer = refused k; records = 0 }) (list_tells (length out) h w)) × (out ≡ list_gives out h w)
    unfolding counting if_done
    unlisted k e = (rw e, rw e)

    pub list_ill : formed_in h w ≡ false
        → (◌≡◌ {A = Count} (record { answer = refused 23; records = 0 }) (list_tells (length out) h w)) × (out ≡ list_gives out h w)
    unfolding list_answer verdict
    list_ill e = unlisted 23 (rw e)

    -- a list is refused where a count is
    pub list_refused : (k : ℕ) → ◌≡◌ {A = Count} (record { answer = refused k; records = 0 }) (count_tells h w)
        → (◌≡◌ {A = Count} (record { answer = refused k; records = 0 }) (list_tells (length out) h w)) × (out ≡ list_gives out h w)
    list_refused k e = go (formed_in h w) refl
      where
        go : (b : Bool) → formed_in h w ≡ b
            → (◌≡◌ {A = Count} (record { answer = refused k; records = 0 }) (list_tells (length out) h w)) × (out ≡ list_gives out h w)
        go true f =
            let p : refused k ≡ done = ap (λ (x : Count). x.answer) (e ∙ sym (is_counted f)) in
            let z : ◌≡◌ {A = ℕ} 0 1 = cc in absurd (omega arith)
        go false f = (e ∙ (sym (not_counted f) ∙ (list_ill f).0), (list_ill f).1)

    module _ (f : formed_in h w ≡ true) where
      pub list_short : length out < h.pending * record_size
          → (◌≡◌ {A = Count} (record { answer = refused 30; records = 0 }) (list_tells (length out) h w)) × (out ≡ list_gives out h w)
      unfolding list_answer verdict
      list_short q =
          unlisted 30 (rw (f, lt-leb (record_size * length (recs w 0 h.pending)) (length out) (omega (arith, many))))

      has_room : h.pending * record_size ≤ length out → list_answer h w (length out) ≡ done
      unfolding list_answer verdict
      has_room q = rw (f, le-leb (record_size * length (recs w 0 h.pending)) (length out) (omega (arith, many)))

      pub listed : length w ≡ array_size → h.pending * record_size ≤ length out
          → (o : List ℕ) → o ≡ take (h.pending * record_size) w ++ drop (h.pending * record_size) out
          → (◌≡◌ {A = Count} (record { answer = done; records = h.pending }) (list_tells (length out) h w)) × (o ≡ list_gives out h w)
      unfolding counting if_done
      listed long q o p =
          let t : record_words (recs w 0 h.pending) ≡ take (h.pending * record_size) w =
          record_words-recs w 0 h.pending (omega (arith, small h w f)) in
          let n : length (record_words (recs w 0 h.pending)) ≡ h.pending * record_size =
          omega (arith, length-record_words (recs w 0 h.pending), many) in
          (rw (has_room q, many), rw (has_room q, n, t) p)

-- States and their tables.
use Rattle.std.proofs.Common.{◌≡◌, List, length, vec_items, vec_len, Vec, ◌∙◌}
use Rattle.std.specs.Vec.{with_items}
use Rattle.std.proofs.lemmas.List.{with_items_is}
use Rattle.machine.specs.Machine.{State}

-- states with equal parts are equal
pub same_state : {X U : Type 0} (a b : State X U) → a.started ≡ b.started → a.controllers ≡ b.controllers → a.seats ≡ b.seats → a.lengths ≡ b.lengths → a.sent ≡ b.sent → a.entries ≡ b.entries
    → a.openings ≡ b.openings → a.committed ≡ b.committed → a.speculative ≡ b.speculative → a.envelopes ≡ b.envelopes → a ≡ b
same_state a b p q x y r s t u v w = λ i. record {
  started = p i;
  controllers = q i;
  seats = x i;
  lengths = y i;
  sent = r i;
  entries = s i;
  openings = t i;
  committed = u i;
  speculative = v i;
  envelopes = w i;
}

-- a table that was lent as a slice, once all of it is refilled
pub refilled_as : {X Z : Type 0} (v : Vec X Z) (ws xs : List X) → length ws ≡ vec_len v → ws ≡ xs → vec_items (with_items v ws) ≡ xs
refilled_as v ws xs n e = with_items_is v ws n ∙ e

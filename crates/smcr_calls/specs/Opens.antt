-- When an open goes through.
-- A reader learns here what is asked of the two sides, so that a Proposal is answered by an Accept, and that by a Confirm.
use Rattle.std.specs.Prelude.{◌≡◌, ◌==◌, ◌&&◌, Bool, true, false}
use Rattle.clc_wire.specs.declared.proposal.Proposal.{Proposal}
use Rattle.clc_wire.specs.declared.offer.Offer.{Offer}
use Rattle.pipe_model.specs.declared.verdict.Lacks.{Lacks}
use Rattle.pipe_model.specs.Flows.{is_deleting}

-- the server lacks nothing, nothing holds it back, and there is no key to ask for first
pub record CanAccept (p : Proposal) (l : Lacks) : Type 0 where
  -- the peers are in one subnet, and an element is free
  pub subnet : ((p.subnet == l.subnet.0) && (p.prefix == l.subnet.1)) ≡ true
  pub element : (l.free == 0) ≡ false
  -- a slot is up, where the group is to begin
  pub slot : (l.group == 0) ≡ true → (l.slots_up == 0) ≡ false
  -- no first contact is under way, and no key is being deleted
  pub contact : l.first_contact ≡ false
  pub deleting : is_deleting l.key_flow ≡ false
  -- the RMB of the free element is confirmed, where the group stands
  pub key : (l.group == 0) ≡ false → l.rmb_ready ≡ true

-- the client too, of the Accept that it takes
pub record CanConfirm (o : Offer) (l : Lacks) : Type 0 where
  -- first contact: it has no group
  pub fresh : o.first ≡ true → (l.group == 0) ≡ true
  -- later contact: the group is its own, an element is free, no key is being deleted, and its RMB is confirmed
  pub group : o.first ≡ false → (o.psn == l.group) ≡ true
  pub element : o.first ≡ false → (l.free == 0) ≡ false
  pub deleting : o.first ≡ false → is_deleting l.key_flow ≡ false
  pub key : o.first ≡ false → l.rmb_ready ≡ true

-- Messages that come to the connection of a socket.
-- A reader learns here that one which may come to what is kept of its end may come to every plain end for which that stands.
use Rattle.std.proofs.Common.{◌≡◌, ◌∙◌, ℕ, ◌-◌, true, List, Option, Some, None, IsSome, refl, sym, ap, true≢false}
use Rattle.std.specs.Prelude.{slice_set}
use Rattle.std.proofs.lemmas.List.Quantifiers.{position-Some}
use Rattle.cdc_wire.specs.declared.CdcMessage.{CdcMessage}
use Rattle.rmb_region.specs.Regions.{Buffer, lands as lands_in}
use Rattle.pipe_model.specs.declared.snapshot.Snapshot.{Snapshot}
use Rattle.pipe_model.specs.declared.sent.Sent.{Sent}
use Rattle.pipe_model.specs.Ends.{Half}
use Rattle.conn_end.specs.Kept.{Kept}
use Rattle.side_core.specs.Records.{Connection, Records, StandsAt, conn_at, is_aimed_at, aimer}
use Rattle.side_core.specs.Comings.{MayArriveAt, ArrivesAt, MayCompleteAt, CompletesAt}
use Rattle.side_core.specs.Manager.{Manager, Represents}
use Rattle.side_core.specs.Acting.{buffer_of, bytes_land}
use Rattle.side_core.specs.Fit.{IsManager}
use Rattle.side_core.proofs.Sockets.Acts.{bytes_fit}
use Rattle.side_core.proofs.Sockets.Halves.{lands_too, completes_too, over_told}

-- that a message of a plain end may come
pub record Comes (message : CdcMessage) (plain : Snapshot) (k : Option (Connection Kept)) (c : Option (Connection Half)) : Type 0 where
  pub sent : Sent
  pub arrives : ArrivesAt message plain sent k c

pub comes : (message : CdcMessage) (plain : Snapshot) (k : Option (Connection Kept)) (c : Option (Connection Half)) → StandsAt k c → MayArriveAt message plain k → Comes message plain k c
comes message plain None c stands may = absurd may
comes message plain (Some k) None stands may = absurd stands
comes message plain (Some k) (Some c) stands may = record {
  sent = may.sent;
  arrives = record {
    lands = lands_too k.end message plain may.end c.end may.sent stands.end may.arrives.lands;
    going = over_told k.end c.end stands.end ∙ sym (over_told k.end may.end may.arrives.lands.stands) ∙ may.arrives.going;
  };
}

pub comes_there : (message : CdcMessage) (plain : Snapshot) (k : Option (Connection Kept)) → MayArriveAt message plain k → IsSome k
comes_there message plain None may = absurd may
comes_there message plain (Some k) may = refl

-- that one may complete
pub record Ends (message : CdcMessage) (plain : Snapshot) (k : Option (Connection Kept)) (c : Option (Connection Half)) : Type 0 where
  pub sent : Sent
  pub completes : CompletesAt message plain sent k c

pub ends : (message : CdcMessage) (plain : Snapshot) (k : Option (Connection Kept)) (c : Option (Connection Half)) → StandsAt k c → MayCompleteAt message plain k → Ends message plain k c
ends message plain None c stands may = absurd may
ends message plain (Some k) None stands may = absurd stands
ends message plain (Some k) (Some c) stands may = record { sent = may.sent; completes = completes_too k.end message plain may.end c.end may.sent stands.end may.completes }

pub ends_there : (message : CdcMessage) (plain : Snapshot) (k : Option (Connection Kept)) → MayCompleteAt message plain k → IsSome k
ends_there message plain None may = absurd may
ends_there message plain (Some k) may = refl

-- a token of the peer names a connection
aimed_there : {E : Type 0} (token : ℕ) (c : Option (Connection E)) → is_aimed_at token c ≡ true → IsSome c
aimed_there token None is = absurd (true≢false (sym is))
aimed_there token (Some c) is = refl

pub aimer_there : (token s : ℕ) (r : Records Kept) → aimer token r ≡ Some s → IsSome (conn_at s r)
aimer_there token s r is = aimed_there token (conn_at s r) (position-Some (is_aimed_at token) r.by_socket s None is).1

-- bytes land in the buffers of both
pub bytes_stand : (rmb address : ℕ) (bytes : List ℕ) (v : Manager Kept) (m : Manager Half) → Represents v m → Represents (bytes_land rmb address bytes v) (bytes_land rmb address bytes m)
bytes_stand rmb address bytes v m stands = record {
  works = record { desk = stands.works.desk; records = stands.works.records; tied = stands.works.tied };
  hands = stands.hands;
  regions = ap (λ (buffers : List Buffer). slice_set buffers (rmb - 1) (lands_in address bytes (buffer_of rmb buffers))) stands.regions;
}

pub bytes_kept : (rmb address : ℕ) (bytes : List ℕ) (v : Manager Kept) → IsManager v → IsManager (bytes_land rmb address bytes v)
bytes_kept rmb address bytes v i = record { plain = bytes_land rmb address bytes i.plain; stands = bytes_stand rmb address bytes v i.plain i.stands; fit = bytes_fit rmb address bytes i.plain i.fit }

pub some_same : (a b : ℕ) → Some a ≡ Some b → a ≡ b
some_same a b is = cc

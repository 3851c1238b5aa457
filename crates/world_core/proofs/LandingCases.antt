-- A post that has just landed, case by case: a write, a CDC message, and CONFIRM LINK or the reply to it.
use Rattle.std.proofs.Common.{true, true≢false, ◌≡◌, ◌∙◌, ℕ, ◌+◌, ◌<◌, ◌^◌, List, [], ◌∷◌, ◌++◌, length, map, take, drop, refl, ap, sym, subst}
use Rattle.std.specs.Prelude.{Option, Some, None}
use Rattle.smc_num.specs.declared.Side.{Side}
use Rattle.smc_num.specs.declared.LinkId.{LinkId}
use Rattle.smc_num.specs.Names.{other, same_side, same_link}
use Rattle.smc_num.specs.Keys.{rmb_bound}
use Rattle.cdc_wire.specs.declared.CdcMessage.{CdcMessage}
use Rattle.llc_wire.specs.declared.LlcMessage.{LlcMessage}
use Rattle.rmb_region.specs.Regions.{Buffer}
use Rattle.clc_wire.specs.declared.message.ClcMessage.{ClcMessage}
use Rattle.pipe_model.specs.declared.event.Event.TheVariants.{Deliver}
use Rattle.pipe_model.specs.declared.reply.Reply.TheVariants.{Landed}
use Rattle.pipe_model.specs.declared.post.Post.{Post}
use Rattle.pipe_model.specs.declared.post.Post.TheVariants.{Write, Cdc, Llc, Clc}
use Rattle.pipe_model.specs.declared.entry.Entry.{Entry}
use Rattle.pipe_model.specs.Ends.{Half}
use Rattle.pipe_model.specs.Wires.{landing, is_on}
use Rattle.rc_link.specs.declared.InFlight.{InFlight}
use Rattle.rc_link.specs.Wire.{Queues, placed, next_cdc, with_landed}
use Rattle.conn_end.specs.Kept.{Kept}
use Rattle.side_core.specs.Records.{aimer, conn_at}
use Rattle.side_core.specs.Comings.{IsGoingAt}
use Rattle.side_core.specs.Acting.{MayWrite, bytes_land}
use Rattle.side_core.specs.Landing.{MayGoOut}
use Rattle.side_core.specs.Manager.{Manager, Represents}
use Rattle.world_core.specs.declared.host.Host.{Host}
use Rattle.world_core.specs.declared.moment.Moment.{Moment}
use Rattle.world_core.specs.OneLink.{the_link}
use Rattle.world_core.specs.Managers.{manager_of}
use Rattle.world_core.specs.Leaving.{HasLanded, is_write_post, is_cdc_post, is_llc_post}
use Rattle.world_core.specs.Landed.{buffer_of}
use Rattle.world_core.specs.Steps.{entry_of}
use Rattle.world_core.specs.Hosts.{IsPlayedBy, past_of, wire_at}
use Rattle.world_core.proofs.WriteEnds.{writing}
use Rattle.world_core.proofs.OnWire.{landing-is, next-lands, never-clc, sent-by}
use Rattle.world_core.proofs.LandingEntries.{write-told, lands-write}
use Rattle.world_core.proofs.LandingsAfter.{one-lands, few-before, lent-now, quiet-landing, IsLeft}
use Rattle.world_core.proofs.Plain.{some-is, link-is, and-right}

-- a post that is a write, a CDC message or an LLC message is none of the other kinds
pub some-write : (post : Post) → is_write_post post ≡ true → ((from : Side) (link : LinkId) (key address len : ℕ) → post ≡ Write from link key address len → ⊥) → ⊥
some-write (Write from link key address len) e apart = apart from link key address len refl
some-write (Cdc from link m) e apart = true≢false (sym e)
some-write (Llc from link m) e apart = true≢false (sym e)
some-write (Clc from s link m) e apart = true≢false (sym e)

pub some-cdc : (post : Post) → is_cdc_post post ≡ true → ((from : Side) (link : LinkId) (m : CdcMessage) → post ≡ Cdc from link m → ⊥) → ⊥
some-cdc (Cdc from link m) e apart = apart from link m refl
some-cdc (Write from link key address len) e apart = true≢false (sym e)
some-cdc (Llc from link m) e apart = true≢false (sym e)
some-cdc (Clc from s link m) e apart = true≢false (sym e)

pub some-llc : (post : Post) → is_llc_post post ≡ true → ((from : Side) (link : LinkId) (m : LlcMessage) → post ≡ Llc from link m → ⊥) → ⊥
some-llc (Llc from link m) e apart = apart from link m refl
some-llc (Write from link key address len) e apart = true≢false (sym e)
some-llc (Cdc from link m) e apart = true≢false (sym e)
some-llc (Clc from s link m) e apart = true≢false (sym e)

module _ (at : Moment) (x : Side) (c : InFlight) (h k : Host) (landed : HasLanded at x c h k) (few : length at.history.now < 2 ^ 18) where
  abbrev First : Host
  First = landed.was

  abbrev Past : List Entry
  Past = past_of at

  abbrev After : ℕ → Entry
  After actor = entry_of at.setup.now at.payload.now (past_of at) at.heard actor (Deliver 1 x)

  abbrev TheirRegions : List Buffer
  TheirRegions = buffer_of at.setup.now at.payload.now (other x) 1 (past_of at) ∷ []

  abbrev OwnRegions : List Buffer
  OwnRegions = buffer_of at.setup.now at.payload.now x 1 (past_of at) ∷ []

  next-is : landing 1 x (past_of at) ≡ Some (placed c)
  next-is =
      let hosts = landed.hosts in
      let set = hosts.set in
      let own = hosts.own in
      landing-is at.setup.now at.payload.now x Past (wire_at 1 landed.was) own.wire c set.one at.heard hosts.played landed.first

  left : IsLeft landed.was h
  left = record { wire = landed.wire ∙ ap (λ o. with_landed o (wire_at 1 landed.was)) (sym landed.first); core = landed.core; flows = landed.flows }

  own-stands : Represents h.core (manager_of at.setup.now at.payload.now (buffer_of at.setup.now at.payload.now x 1 (past_of at) ∷ []) x (past_of at))
  own-stands =
      let hosts = landed.hosts in
      let own = hosts.own in
      subst (λ (v : Manager Kept). Represents v (manager_of at.setup.now at.payload.now (buffer_of at.setup.now at.payload.now x 1 (past_of at) ∷ []) x (past_of at))) (sym landed.core) own.side

  -- no CLC message goes on a wire
  pub not-clc : (from : Side) (s : ℕ) (link : Option LinkId) (m : ClcMessage) → c.post ≡ Clc from s link m → ⊥
  not-clc from s link m e =
      let hosts = landed.hosts in
      let own = hosts.own in
      let next = next-lands at.setup.now at.payload.now x Past (wire_at 1 landed.was) own.wire c landed.first in
      never-clc x c next.there from s link m e

  pub write-from : (from : Side) (link : LinkId) (key address len : ℕ) → c.post ≡ Write from link key address len → c.post ≡ Write x link key address len
  write-from from link key address len e =
      let hosts = landed.hosts in
      let own = hosts.own in
      let next = next-lands at.setup.now at.payload.now x Past (wire_at 1 landed.was) own.wire c landed.first in
      e ∙ ap (λ y. Write y link key address len) (sent-by x c next.there (Write from link key address len) e)

  pub cdc-from : (from : Side) (link : LinkId) (m : CdcMessage) → c.post ≡ Cdc from link m → c.post ≡ Cdc x link m
  cdc-from from link m e =
      let hosts = landed.hosts in
      let own = hosts.own in
      let next = next-lands at.setup.now at.payload.now x Past (wire_at 1 landed.was) own.wire c landed.first in
      e ∙ ap (λ y. Cdc y link m) (sent-by x c next.there (Cdc from link m) e)

  pub llc-from : (from : Side) (link : LinkId) (m : LlcMessage) → c.post ≡ Llc from link m → c.post ≡ Llc x link m
  llc-from from link m e =
      let hosts = landed.hosts in
      let own = hosts.own in
      let next = next-lands at.setup.now at.payload.now x Past (wire_at 1 landed.was) own.wire c landed.first in
      e ∙ ap (λ y. Llc y link m) (sent-by x c next.there (Llc from link m) e)

  -- what waits behind it
  behind : (rest : List InFlight) → (wire_at 1 landed.was).waiting ≡ c ∷ rest → (wire_at 1 h).waiting ≡ rest
  behind rest is = ap (λ (w : Queues). w.waiting) landed.wire ∙ ap (λ (cs : List InFlight). drop 1 cs) is

  -- a write has landed
  module _ (link : LinkId) (key address len : ℕ) (is_write : c.post ≡ Write x link key address len) where
    -- it was on the one slot
    pub on-slot : link.slot ≡ 1
    on-slot =
        let hosts = landed.hosts in
        let own = hosts.own in
        let next = next-lands at.setup.now at.payload.now x Past (wire_at 1 landed.was) own.wire c landed.first in
        let same = and-right (same_side x x) (same_link the_link link) (ap (λ p. is_on the_link x p) (sym is_write) ∙ next.there) in
        sym (ap (λ (l : LinkId). l.slot) (link-is the_link link same))

    pub record IsWriting : Type 0 where
      pub m : CdcMessage
      pub next : next_cdc (map (λ (d : InFlight). d.post) (wire_at 1 h).waiting) ≡ Some m
      pub goes : MayGoOut m.token address len h.core
      pub parts : (front back : List ℕ) → ((s : ℕ) (e : Half) (first : ℕ) → aimer m.token h.core.records ≡ Some s → IsGoingAt h.core.records.terms.size (conn_at s h.core.records) address len e first → front ++ back ≡ take len (drop first e.out))
          → MayWrite link key address (length front + length back) k.core
      pub lands : (front back : List ℕ) → ((s : ℕ) (e : Half) (first : ℕ) → aimer m.token h.core.records ≡ Some s → IsGoingAt h.core.records.terms.size (conn_at s h.core.records) address len e first → front ++ back ≡ take len (drop first e.out))
          → (v : Manager Kept) → ((n : Manager Half) (rmb : ℕ) → Represents k.core n → rmb_bound key link n.desk.keys ≡ Some rmb → Represents v (bytes_land rmb address (front ++ back) n))
          → (actor : ℕ) → Represents v (manager_of at.setup.now at.payload.now (buffer_of at.setup.now at.payload.now (other x) 1 (After actor ∷ Past) ∷ []) (other x) Past)

    is-writing : IsWriting
    is-writing =
        let hosts = landed.hosts in
        let set = hosts.set in
        let own = hosts.own in
        let theirs = hosts.theirs in
        let next = next-lands at.setup.now at.payload.now x Past (wire_at 1 landed.was) own.wire c landed.first in
        let lendings = lent-now at x First k hosts few in
        let w = writing at.setup.now at.payload.now set Past at.heard hosts.played x lendings OwnRegions h.core own-stands k.core theirs.side (wire_at 1 landed.was) own.wire c next.rest x link key address len next.carried_is is_write in
        let told = write-told at.setup.now set.one at.payload.now Past at.heard hosts.played lendings OwnRegions x 0 (placed c) next-is x link key address len is_write in
        record {
          m = w.m;
          next = ap (λ (cs : List InFlight). next_cdc (map (λ (d : InFlight). d.post) cs)) (behind next.rest next.carried_is) ∙ w.next;
          goes = w.goes;
          parts = λ front back out. w.writes_parts front back (out w.s _ w.at w.aimed w.going);
          lands = λ front back out v stands actor.
              subst (λ (n : Manager Half). Represents v n)
              (ap (λ bytes. bytes_land 1 address bytes (manager_of at.setup.now at.payload.now TheirRegions (other x) Past)) (out w.s _ w.at w.aimed w.going)
              ∙ w.lands (After actor) (one-lands at.setup.now at.payload.now Past at.heard x First k hosts (few-before at x First k hosts few) actor (placed c) next-is told))
              (stands (manager_of at.setup.now at.payload.now TheirRegions (other x) Past) 1 theirs.side w.bound);
        }

    -- the message that follows
    named : (n : CdcMessage) → next_cdc (map (λ (d : InFlight). d.post) (wire_at 1 h).waiting) ≡ Some n → is-writing.m ≡ n
    named n e = let w = is-writing in some-is w.m n (sym w.next ∙ e)

    pub some-follows : next_cdc (map (λ (d : InFlight). d.post) (wire_at 1 h).waiting) ≡ None → ⊥
    some-follows e = let w = is-writing in let none : None ≡ Some w.m = sym e ∙ w.next in cc

    pub may-go : (n : CdcMessage) → next_cdc (map (λ (d : InFlight). d.post) (wire_at 1 h).waiting) ≡ Some n → MayGoOut n.token address len h.core
    may-go n e = let w = is-writing in subst (λ (q : CdcMessage). MayGoOut q.token address len h.core) (named n e) w.goes

    module _ (n : CdcMessage) (e : next_cdc (map (λ (d : InFlight). d.post) (wire_at 1 h).waiting) ≡ Some n) (front back : List ℕ)
        (out : (s : ℕ) (e : Half) (first : ℕ) → aimer n.token h.core.records ≡ Some s → IsGoingAt h.core.records.terms.size (conn_at s h.core.records) address len e first → front ++ back ≡ take len (drop first e.out)) where
      out-of : (s : ℕ) (e : Half) (first : ℕ) → aimer (is-writing.m).token h.core.records ≡ Some s → IsGoingAt h.core.records.terms.size (conn_at s h.core.records) address len e first → front ++ back ≡ take len (drop first e.out)
      out-of s g first aimed going = out s g first (ap (λ (q : CdcMessage). aimer q.token h.core.records) (sym (named n e)) ∙ aimed) going

      pub may-write : MayWrite link key address (length front + length back) k.core
      may-write = let w = is-writing in w.parts front back out-of

      pub write-lands : (v : Manager Kept) → ((n : Manager Half) (rmb : ℕ) → Represents k.core n → rmb_bound key link n.desk.keys ≡ Some rmb → Represents v (bytes_land rmb address (front ++ back) n))
          → IsPlayedBy at (Deliver 1 x) (Landed c.at) [] x h (record k { core = v })
      write-lands v stands =
          let hosts = landed.hosts in
          let set = hosts.set in
          let w = is-writing in
          let lendings = lent-now at x First k hosts few in
          quiet-landing at x First k hosts few h v (Landed c.at) [] (write-told at.setup.now set.one at.payload.now Past at.heard hosts.played lendings OwnRegions x 0 (placed c) next-is x link key address len is_write) refl
          (λ regions actor. lands-write at.setup.now set.one at.payload.now Past at.heard hosts.played lendings regions x actor (placed c) next-is x link key address len is_write) left
          (w.lands front back out-of v stands)

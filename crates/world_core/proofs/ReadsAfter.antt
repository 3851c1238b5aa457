-- What a read makes of the two hosts, by what its end is.
use Rattle.std.proofs.Common.{◌≡◌, ◌∙◌, ℕ, ◌+◌, ◌^◌, ◌<◌, ◌≤◌, ◌==◌, Bool, true, false, if◌then◌else◌, List, [], ◌∷◌, length, take, slice_set, filter, refl, ap, sym, subst, arith, nat_lt}
use Rattle.std.specs.Prelude.{Some, Option, option_map}
use Rattle.std.proofs.lemmas.List.{length-reverse, length-set}
use Rattle.smc_num.specs.declared.Side.{Side}
use Rattle.smc_num.specs.Names.{other}
use Rattle.rmb_region.specs.Regions.{Buffer}
use Rattle.pipe_model.specs.declared.entry.Entry.{Entry}
use Rattle.pipe_model.specs.declared.event.End.{End}
use Rattle.pipe_model.specs.declared.event.Event.{Event}
use Rattle.pipe_model.specs.declared.event.Event.TheVariants.{Read}
use Rattle.pipe_model.specs.declared.reply.Reply.{Reply}
use Rattle.pipe_model.specs.declared.reply.Reply.TheVariants.{NoSocket, NotYet, Empty}
use Rattle.pipe_model.specs.declared.post.Post.{Post}
use Rattle.pipe_model.specs.declared.closing.Phase.TheVariants.{Open}
use Rattle.pipe_model.specs.Ends.{Half, settle}
use Rattle.pipe_model.specs.Calls.{Reads, reads, Told, Plain, Hands}
use Rattle.pipe_model.specs.Connections.{EndState, NoEnd, IsUp, HasFallen, is_up}
use Rattle.pipe_model.specs.Fallback.{is_fallen, fallen_read, read_out, written}
use Rattle.pipe_model.specs.Lending.{lends_by}
use Rattle.pipe_model.specs.Words.{element_size}
use Rattle.pipe_model.specs.Replies.{told}
use Rattle.pipe_model.specs.Lawful.{reply_of}
use Rattle.clc_handshake.specs.declared.stage.EndState.TheVariants.{Absent, Up, FellBack}
use Rattle.clc_handshake.specs.Stages.{seen_state}
use Rattle.conn_end.specs.Told.{Answers}
use Rattle.conn_end.specs.declared.answers.EndReply.{EndReply}
use Rattle.side_core.specs.Acting.{acts_at, call_of, due_at, due_from}
use Rattle.side_core.specs.Manager.{Manager, Represents, state_at}
use Rattle.side_core.specs.Records.{Connection, conn_at, half_at}
use Rattle.rc_link.specs.Wire.{room_of}
use Rattle.world_core.specs.declared.host.Host.{Host}
use Rattle.world_core.specs.declared.host.Outflow.{Outflow}
use Rattle.world_core.specs.declared.moment.Moment.{Moment}
use Rattle.world_core.specs.Managers.{end_of}
use Rattle.world_core.specs.Landed.{buffer_of}
use Rattle.world_core.specs.Played.{IsOneLink}
use Rattle.world_core.specs.Sending.{outflow_at, carried_from, goes_on_wire, MaySendAll}
use Rattle.world_core.specs.Hosts.{AreHosts, IsPlayedBy, past_of, with_posts, wire_at}
use Rattle.world_core.specs.Calling.{MayCall, IsCalledAt, replied, taken, hands_over}
use Rattle.world_core.specs.Streams.{gives_out}
use Rattle.world_core.proofs.PlayedWorlds.{played}
use Rattle.world_core.proofs.Handshaken.{shaken}
use Rattle.world_core.proofs.Lendings.{lent-to-up}
use Rattle.world_core.proofs.KnownEntries.{LentToUp}
use Rattle.world_core.proofs.CallEntries.{IsCalled, IsNothing}
use Rattle.world_core.proofs.QuietManagers.{did-read, did-not-read}
use Rattle.world_core.proofs.EndRecords.{up-conn, plain_conn}
use Rattle.world_core.proofs.CallStates.{is-end, seen-absent, seen-up, seen-fallen, waits, is_reset_state}
use Rattle.world_core.proofs.CallsAfter.{IsCall, entry_by, plays, plain_at, Now, idle-after, stays-after, called-after, has-room, may-go, sound-here, mine-flows}
use Rattle.world_core.proofs.ReadAnswers.{answer-replied, reads-count}
use Rattle.world_core.proofs.ReadTold.{here, peer_out, state, up-is, fallen-is, told-absent, told-waits, told-fell, up, told-up, is-open, Count, fits, answers-here, taken-count}
use Rattle.world_core.proofs.StreamFronts.{unfallen-reads, read-writes}
use Rattle.world_core.proofs.AllLendings.{has-lendings}
use Rattle.world_core.proofs.StreamsAfter.{Flowing, their-flows, their-read}
use Rattle.world_core.proofs.Plain.{twice}

-- what is done to an end makes the same of its manager, where it makes the same of the end
module _ (s : ℕ) (one two : Half → Half) (m : Manager Half) (c : Connection Half) (there : conn_at s m.records ≡ Some c) (same : one c.end ≡ two c.end) where
  abbrev Settled : (Half → Half) → Option (Connection Half) → Option (Connection Half)
  Settled act o = option_map (λ (c : Connection Half). let k : Connection Half = record c { end = settle m.records.terms.depth (act c.end) } in k) o

  settled-same : Settled one (conn_at s m.records) ≡ Settled two (conn_at s m.records)
  settled-same =
      ap (λ o. Settled one o) there
      ∙ (ap (λ h. let k : Connection Half = record c { end = settle m.records.terms.depth h } in Some k) same ∙ ap (λ o. Settled two o) (sym there))

  pub acts-same : acts_at s one m ≡ acts_at s two m
  acts-same = ap (λ (o : Option (Connection Half)). let q : Manager Half = record m { records = record m.records { by_socket = slice_set m.records.by_socket s o } } in q) settled-same

  pub due-same : due_at s one m ≡ due_at s two m
  due-same = ap (λ o. due_from one m o) there ∙ (ap (λ h. due_from (λ (k : Half). h) m (Some c)) same ∙ ap (λ o. due_from two m o) (sym there))

-- an answer of a stream takes out of it just what it hands over
abbrev IsQuietTold : Told → Type 0
IsQuietTold (Plain reply) = (dir : Side) (s : ℕ) (end : End) (len : ℕ) (past : List Entry) → read_out dir s (Read end len) reply past ≡ 0
IsQuietTold (Hands bytes) = Unit {0}

quiet-told : (held : List ℕ) (len : ℕ) → IsQuietTold (fallen_read false held len Open)
quiet-told held len = by (len == 0) (nat_lt 0 (length held))
  where
    by : (b c : Bool) → IsQuietTold (if b then Hands [] else if c then Hands (take len held) else Plain Empty)
    by true c = tt
    by false true = tt
    by false false = λ dir s end len past. refl

module _ (at : Moment) (end : End) (len : ℕ) (own theirs : Host) (hosts : AreHosts at end.side own theirs) (few : length at.history.now < 2 ^ 18) (socket : end.s < at.setup.now.sockets) where
  abbrev Before : List Entry
  Before = past_of at

  abbrev Event_is : Event
  Event_is = Read end len

  few-past : length Before < 2 ^ 18
  few-past = let e : length Before ≡ length at.history.now = length-reverse at.history.now in omega (arith, e, few)

  is-read : IsCall Event_is
  is-read = record { lands_none = λ y reply. refl; moves_none = λ y w. refl }

  abbrev E : ℕ → Entry
  E actor = entry_by at.setup.now at.payload.now Before at.heard Event_is own theirs hosts few-past socket actor

  one : IsOneLink at.setup.now
  one = let set = hosts.set in set.one

  lent-up : LentToUp at.setup.now at.payload.now Before
  lent-up =
      let w = played at.setup.now one at.payload.now Before at.heard hosts.played in
      lent-to-up at.setup.now at.payload.now w.stage Before w.world (has-lendings at.setup.now one at.payload.now Before at.heard hosts.played)

  -- what the managers do
  nothing : is_up end.side end.s Before ≡ false → (actor : ℕ) (regions : List Buffer) → IsNothing at.setup.now at.payload.now regions (E actor) Before
  nothing down actor regions =
      let w = played at.setup.now one at.payload.now Before at.heard hosts.played in
      let n : ℕ = Now at.setup.now at.payload.now Before at.heard Event_is own theirs hosts few-past socket in
      let p = plays at.setup.now at.payload.now Before at.heard Event_is own theirs hosts few-past socket actor in
      let now : Entry = E actor in
      did-not-read at.setup.now at.payload.now regions w.stage Before w.world lent-up actor n now.posts end len now.reply (p, shaken at.setup.now one at.payload.now (now ∷ Before) n p) down

  called : is_up end.side end.s Before ≡ true → (actor : ℕ) (regions : List Buffer) → IsCalled at.setup.now at.payload.now regions end.side end.s (Reads len) (E actor) Before
  called is actor regions =
      let w = played at.setup.now one at.payload.now Before at.heard hosts.played in
      let n : ℕ = Now at.setup.now at.payload.now Before at.heard Event_is own theirs hosts few-past socket in
      let p = plays at.setup.now at.payload.now Before at.heard Event_is own theirs hosts few-past socket actor in
      let now : Entry = E actor in
      did-read at.setup.now at.payload.now regions w.stage Before w.world lent-up actor n now.posts end len now.reply (p, shaken at.setup.now one at.payload.now (now ∷ Before) n p) is

  writes-nothing : (actor s : ℕ) → let now : Entry = E actor in written at.payload.now end.side s Event_is now.reply Before ≡ []
  writes-nothing actor s = let now : Entry = E actor in read-writes at.payload.now end.side s end len now.reply Before

  -- a read that an end refuses
  refused : (reply : Reply) (posts : List Post) → posts ≡ [] → told at.setup.now at.payload.now Before Event_is ≡ Plain reply → is_up end.side end.s Before ≡ false → is_fallen end.side end.s Before ≡ false
      → IsPlayedBy at Event_is reply posts end.side own theirs
  refused reply posts none is down standing = record {
    reply_is = sym (ap (λ t. reply_of at.heard t) is);
    posts_are = let n = nothing down 0 [] in none ∙ sym n.posts;
    after = λ actor. stays-after at.setup.now at.payload.now Before at.heard Event_is own theirs hosts few-past socket is-read actor
        (writes-nothing actor) (λ s. refl) (λ s. let now : Entry = E actor in unfallen-reads (other end.side) s end len now.reply Before standing) (nothing down actor);
  }

  pub read-absent : (posts : List Post) → posts ≡ [] → seen_state (state_at end.s own.core) ≡ Absent → IsPlayedBy at Event_is NoSocket posts end.side own theirs
  read-absent posts none seen =
      let is : state_at end.s own.core ≡ NoEnd = seen-absent (state_at end.s own.core) seen in
      refused NoSocket posts none (told-absent at.setup.now at.payload.now Before at.heard end len own theirs hosts socket seen) (up-is at.setup.now at.payload.now Before at.heard end len own theirs hosts socket NoEnd is) (fallen-is at.setup.now at.payload.now Before at.heard end len own theirs hosts socket NoEnd is)

  pub read-waits : (posts : List Post) → posts ≡ [] → (seen_state (state_at end.s own.core) ≡ Absent → ⊥) → (seen_state (state_at end.s own.core) ≡ Up → ⊥) → (seen_state (state_at end.s own.core) ≡ FellBack → ⊥)
      → IsPlayedBy at Event_is NotYet posts end.side own theirs
  read-waits posts none a u f =
      let i = is-end at.setup.now one at.payload.now Before at.heard hosts.played end.side end.s in
      let st : EndState = state_at end.s own.core in
      let w = waits st a u f (ap (λ s. is_reset_state s) (state at.setup.now at.payload.now Before at.heard end len own theirs hosts socket) ∙ i.reset) in
      refused NotYet posts none (told-waits at.setup.now at.payload.now Before at.heard end len own theirs hosts socket a u f) (up-is at.setup.now at.payload.now Before at.heard end len own theirs hosts socket st refl ∙ w.up) (fallen-is at.setup.now at.payload.now Before at.heard end len own theirs hosts socket st refl ∙ w.fallen)

  -- an established end
  module _ (seen : seen_state (state_at end.s own.core) ≡ Up) (n : ℕ) (all : n ≡ Count at.setup.now at.payload.now Before at.heard end len own theirs hosts socket seen) where
    is : state_at end.s own.core ≡ IsUp
    is = seen-up (state_at end.s own.core) seen

    is-there : is_up end.side end.s Before ≡ true
    is-there = up at.setup.now at.payload.now Before at.heard end len own theirs hosts socket seen

    abbrev Plain_is : Manager Half
    Plain_is = plain_at at.setup.now at.payload.now Before at.heard Event_is own theirs hosts few-past socket end.side

    -- a read of as many bytes as there are does the same
    record IsSameCall : Type 0 where
      pub acts : acts_at end.s (call_of (Reads n) Plain_is) Plain_is ≡ acts_at end.s (call_of (Reads len) Plain_is) Plain_is
      pub due : due_at end.s (call_of (Reads n) Plain_is) Plain_is ≡ due_at end.s (call_of (Reads len) Plain_is) Plain_is

    same-call : IsSameCall
    same-call =
        let o = hosts.own in
        let h : Half = end_of at.setup.now at.payload.now end.side end.s Before in
        let c = up-conn at.setup.now at.payload.now (buffer_of at.setup.now at.payload.now end.side 1 Before ∷ []) end.side Before own.core o.side one at.heard hosts.played
        (has-lendings at.setup.now one at.payload.now Before at.heard hosts.played) end.s is-there in
        let e : reads n h ≡ reads len h = ap (λ k. reads k h) all ∙ reads-count (element_size at.setup.now) len h (is-open at.setup.now at.payload.now Before at.heard end len own theirs hosts socket seen) in
        let k : Connection Half = plain_conn at.setup.now at.payload.now end.side Before end.s (lends_by end.s c.own.link c.own.offer) in
        record {
          acts = acts-same end.s (call_of (Reads n) Plain_is) (call_of (Reads len) Plain_is) Plain_is k c.plain_is e;
          due = due-same end.s (call_of (Reads n) Plain_is) (call_of (Reads len) Plain_is) Plain_is k c.plain_is e;
        }

    pub read-may : MayCall end.s (Reads n) own
    read-may =
        let o = hosts.own in
        let q = same-call in
        record {
          up = is;
          sound = sound-here at.setup.now at.payload.now Before at.heard Event_is own theirs hosts few-past socket is-read 0 end.s (Reads len) (called is-there 0);
          plain = Plain_is;
          stands = o.side;
          room = subst (λ (ps : List Post). length (filter goes_on_wire ps) ≤ room_of (wire_at 1 own)) (sym q.due)
              (has-room at.setup.now at.payload.now Before at.heard Event_is own theirs hosts few-past socket is-read 0 end.s (Reads len) (called is-there 0));
          sent = λ v stands. subst (λ (ps : List Post). MaySendAll (length own.flows.items) v ps) (sym q.due)
              (may-go at.setup.now at.payload.now Before at.heard Event_is own theirs hosts few-past socket is-read 0 end.s (Reads len) (called is-there 0) v (subst (λ (k : Manager Half). Represents v k) q.acts stands));
        }

    pub read-up : (answer : EndReply) (before : ℕ) (mine : Host) (posts : List Post) → before ≡ at.heard
        → ((m : Manager Half) → Represents own.core m → Answers m.records.terms.size (Reads len) (half_at end.s m.records) answer)
        → ((m : Manager Half) → Represents own.core m → IsCalledAt end.s (Reads n) (length at.history.now + 1) m own mine posts)
        → IsPlayedBy at Event_is (replied answer before) posts end.side mine theirs
    read-up answer before mine posts was says calls =
        let o = hosts.own in
        let q = same-call in
        let c = calls Plain_is o.side in
        let d : IsCalledAt end.s (Reads len) (length Before + 1) Plain_is own mine posts = record {
          side = subst (λ (k : Manager Half). Represents mine.core k) q.acts c.side;
          posts_are = c.posts_are ∙ q.due;
          wire = c.wire ∙ (ap (λ (k : Manager Half). with_posts (carried_from k (length at.history.now + 1) 1 posts) (wire_at 1 own)) q.acts
              ∙ ap (λ i. with_posts (carried_from (acts_at end.s (call_of (Reads len) Plain_is) Plain_is) (i + 1) 1 posts) (wire_at 1 own)) (sym (length-reverse at.history.now)));
          flows = c.flows;
        } in
        let now-called = called is-there 0 (buffer_of at.setup.now at.payload.now end.side 1 Before ∷ []) in
        let a = answers-here at.setup.now at.payload.now Before at.heard end len own theirs hosts socket seen len answer says in
        let rd : ℕ = (here at.setup.now at.payload.now Before at.heard end len own theirs hosts socket).rd in
        let out : List ℕ = peer_out at.setup.now at.payload.now Before at.heard end len own theirs hosts socket in
        let many : rd + taken answer ≤ length out = subst (λ k. rd + k ≤ length out) (sym (taken-count at.setup.now at.payload.now Before at.heard end len own theirs hosts socket seen answer a)) (fits at.setup.now at.payload.now Before at.heard end len own theirs hosts socket seen) in
        record {
          reply_is = ap (λ k. replied answer k) was ∙ (answer-replied answer at.heard rd out many ∙ ap (λ t. reply_of at.heard t) (a.told out ∙ sym (told-up at.setup.now at.payload.now Before at.heard end len own theirs hosts socket seen)));
          posts_are = d.posts_are ∙ sym now-called.posts;
          after = λ actor. called-after at.setup.now at.payload.now Before at.heard Event_is own theirs hosts few-past socket is-read actor
              (writes-nothing actor) (λ s. refl) (λ s. let now : Entry = E actor in unfallen-reads (other end.side) s end len now.reply Before (fallen-is at.setup.now at.payload.now Before at.heard end len own theirs hosts socket IsUp is))
              end.s (Reads len) (called is-there actor) mine posts d;
        }

  -- an end that has fallen back
  pub read-fell : (result : Reply) (before : ℕ) (peers : Host) (posts : List Post) → posts ≡ [] → seen_state (state_at end.s own.core) ≡ FellBack → before ≡ at.heard
      → peers.core ≡ theirs.core → (wire_at 1 peers) ≡ (wire_at 1 theirs)
      → result ≡ reply_of before (fallen_read false (outflow_at end.s theirs.flows.items).bytes.held len Open)
      → peers.flows.items ≡ hands_over end.s (fallen_read false (outflow_at end.s theirs.flows.items).bytes.held len Open) theirs.flows.items
      → IsPlayedBy at Event_is result posts end.side own peers
  read-fell result before peers posts none seen was core wire says gives =
      let o = hosts.own in
      let t = hosts.theirs in
      let is : state_at end.s own.core ≡ HasFallen = seen-fallen (state_at end.s own.core) seen in
      let down : is_up end.side end.s Before ≡ false = up-is at.setup.now at.payload.now Before at.heard end len own theirs hosts socket HasFallen is in
      let fell : is_fallen end.side end.s Before ≡ true = fallen-is at.setup.now at.payload.now Before at.heard end len own theirs hosts socket HasFallen is in
      let bytes : List ℕ = (outflow_at end.s theirs.flows.items).bytes.held in
      let told-now : told at.setup.now at.payload.now Before Event_is ≡ fallen_read false bytes len Open = told-fell at.setup.now at.payload.now Before at.heard end len own theirs hosts socket seen in
      let n = nothing down 0 [] in
      record {
        reply_is = says ∙ (ap (λ k. reply_of k (fallen_read false bytes len Open)) was ∙ ap (λ t. reply_of at.heard t) (sym told-now));
        posts_are = none ∙ sym n.posts;
        after = λ actor.
            idle-after at.setup.now at.payload.now Before at.heard Event_is own theirs hosts few-past socket is-read actor (nothing down actor) own peers refl refl core wire
            o.sockets (ap (λ (fs : List Outflow). length fs) gives ∙ (long (fallen_read false bytes len Open) ∙ t.sockets))
            (let none = nothing down actor [] in mine-flows at.setup.now at.payload.now Before at.heard Event_is own theirs hosts few-past socket is-read actor none.posts (writes-nothing actor))
            (subst (λ (fs : List Outflow). Flowing at.payload.now at.setup.now.sockets (other end.side) (E actor ∷ Before) fs) (sym gives)
            (flowing actor fell (fallen_read false bytes len Open) told-now (quiet-told bytes len)));
      }
    where
      long : (t : Told) → length (hands_over end.s t theirs.flows.items) ≡ length theirs.flows.items
      long (Plain reply) = refl
      long (Hands bytes) = length-set theirs.flows.items end.s (gives_out (length bytes) (outflow_at end.s theirs.flows.items))

      flowing : (actor : ℕ) → is_fallen end.side end.s Before ≡ true → (t : Told) → told at.setup.now at.payload.now Before Event_is ≡ t → IsQuietTold t
          → Flowing at.payload.now at.setup.now.sockets (other end.side) (E actor ∷ Before) (hands_over end.s t theirs.flows.items)
      flowing actor fell (Plain reply) e quiet =
          let f = hosts.theirs in
          let q = plays at.setup.now at.payload.now Before at.heard Event_is own theirs hosts few-past socket actor in
          let m : ℕ = Now at.setup.now at.payload.now Before at.heard Event_is own theirs hosts few-past socket in
          their-flows at.setup.now one at.payload.now (E actor) Before m q (other end.side) (twice end.side) theirs.flows.items (λ s. refl)
          (λ s. ap (λ t. read_out (other end.side) s (Read end len) (reply_of at.heard t) Before) e ∙ quiet (other end.side) s end len Before) f.flows
      flowing actor fell (Hands bytes) e quiet =
          let f = hosts.theirs in
          let q = plays at.setup.now at.payload.now Before at.heard Event_is own theirs hosts few-past socket actor in
          let m : ℕ = Now at.setup.now at.payload.now Before at.heard Event_is own theirs hosts few-past socket in
          their-read at.setup.now one at.payload.now (E actor) Before m q end len at.heard (length bytes) refl (ap (λ t. reply_of at.heard t) e) fell theirs.flows.items f.sockets f.flows

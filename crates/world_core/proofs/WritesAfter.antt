-- What a write makes of the two hosts, by what its end is.
use Rattle.std.proofs.Common.{◌≡◌, ◌∙◌, ℕ, ◌+◌, ◌^◌, ◌<◌, ◌≤◌, true, false, List, [], ◌∷◌, length, take, drop, slice_set, refl, ap, sym, subst, arith}
use Rattle.std.specs.Prelude.{Some, None, Option, option_map, unwrap_or}
use Rattle.std.proofs.lemmas.List.{length-reverse, length-set}
use Rattle.smc_num.specs.Names.{other}
use Rattle.rmb_region.specs.Regions.{Buffer}
use Rattle.tcp_pipe.specs.Streams.{Direction, free}
use Rattle.pipe_model.specs.declared.entry.Entry.{Entry}
use Rattle.pipe_model.specs.declared.event.End.{End}
use Rattle.pipe_model.specs.declared.event.Event.{Event}
use Rattle.pipe_model.specs.declared.event.Event.TheVariants.{Write}
use Rattle.pipe_model.specs.declared.reply.Reply.{Reply}
use Rattle.pipe_model.specs.declared.reply.Reply.TheVariants.{NoSocket, NotYet}
use Rattle.pipe_model.specs.declared.reply.ResetCause.{ResetCause}
use Rattle.pipe_model.specs.declared.post.Post.{Post}
use Rattle.pipe_model.specs.declared.closing.Phase.TheVariants.{Open}
use Rattle.pipe_model.specs.Closing.{cause_of}
use Rattle.pipe_model.specs.Ends.{Half, fresh}
use Rattle.pipe_model.specs.Words.{element_size}
use Rattle.pipe_model.specs.Pipe.{half}
use Rattle.pipe_model.specs.Calls.{Writes, Plain, half_told}
use Rattle.pipe_model.specs.Connections.{EndState, NoEnd, IsUp, HasFallen, end_state, is_up, group_on}
use Rattle.pipe_model.specs.Fallback.{is_fallen, is_fallen_state, fallen_write}
use Rattle.pipe_model.specs.Lending.{pipe_of}
use Rattle.pipe_model.specs.Replies.{told, end_told}
use Rattle.pipe_model.specs.Lawful.{reply_of}
use Rattle.clc_handshake.specs.declared.stage.EndState.TheVariants.{Absent, Up, FellBack}
use Rattle.clc_handshake.specs.Stages.{seen_state}
use Rattle.side_core.specs.Landing.{told_at as told_by_end}
use Rattle.side_core.specs.Manager.{Manager, Represents, state_at}
use Rattle.side_core.specs.Records.{Connection, half_at}
use Rattle.world_core.specs.declared.host.Host.{Host}
use Rattle.world_core.specs.declared.host.Outflow.{Outflow}
use Rattle.world_core.specs.declared.moment.Moment.{Moment}
use Rattle.world_core.specs.Managers.{records_of, end_of}
use Rattle.world_core.specs.Landed.{buffer_of}
use Rattle.pipe_model.specs.Fits.{Fits}
use Rattle.world_core.specs.Sending.{outflow_at}
use Rattle.world_core.specs.Hosts.{AreHosts, IsPlayedBy, IsStreamAfter, past_of, wire_at}
use Rattle.world_core.specs.Calling.{MayCall, IsCalledAt}
use Rattle.world_core.specs.Streams.{takes_in}
use Rattle.world_core.proofs.PlayedWorlds.{played}
use Rattle.world_core.proofs.Handshaken.{shaken}
use Rattle.world_core.proofs.Lendings.{lent-to-up}
use Rattle.world_core.proofs.KnownEntries.{LentToUp}
use Rattle.world_core.proofs.CallEntries.{IsCalled, IsNothing}
use Rattle.world_core.proofs.QuietManagers.{wrote, wrote-not}
use Rattle.world_core.proofs.EndRecords.{state-is, up-conn}
use Rattle.world_core.proofs.CallStates.{is_up_state, is_reset_state, is-end, seen-absent, seen-up, seen-fallen, waits}
use Rattle.world_core.proofs.CallsAfter.{IsCall, entry_by, plays, plain_at, Now, idle-after, stays-after, called-after, may-call, peer-flows}
use Rattle.world_core.proofs.AllLendings.{has-lendings}
use Rattle.world_core.proofs.StreamFronts.{fallen-call-told, unfallen-writes}
use Rattle.world_core.proofs.StreamsAfter.{own-written}

-- what a write is told doesn't hang on what the peer has accepted
write-told : (size : ℕ) (bytes : List ℕ) (h : Half) (out : List ℕ) (cause : Option ResetCause) → half_told size (Writes bytes) h out cause ≡ half_told size (Writes bytes) h [] cause
write-told size bytes h out None = refl
write-told size bytes h out (Some cause) = refl

module _ (at : Moment) (end : End) (place len : ℕ) (own theirs : Host) (hosts : AreHosts at end.side own theirs) (few : length at.history.now < 2 ^ 18)
    (socket : end.s < at.setup.now.sockets) (within : place + len ≤ length at.payload.now) where
  abbrev Past : List Entry
  Past = past_of at

  abbrev Told_by : Event
  Told_by = Write end place len

  abbrev Taken_in : List ℕ
  Taken_in = take len (drop place at.payload.now)

  built : Fits at.setup.now (length at.payload.now) Told_by
  built = (socket, within)

  few-past : length Past < 2 ^ 18
  few-past = let e : length Past ≡ length at.history.now = length-reverse at.history.now in omega (arith, e, few)

  is-write : IsCall Told_by
  is-write = record { lands_none = λ y reply. refl; moves_none = λ y w. refl }

  abbrev E : ℕ → Entry
  E actor = entry_by at.setup.now at.payload.now Past at.heard Told_by own theirs hosts few-past built actor

  state : state_at end.s own.core ≡ end_state end.side end.s Past
  state = let o = hosts.own in state-is at.setup.now at.payload.now (buffer_of at.setup.now at.payload.now end.side 1 Past ∷ []) end.side Past own.core o.side end.s socket

  up-is : (st : EndState) → state_at end.s own.core ≡ st → is_up end.side end.s Past ≡ is_up_state st
  up-is st e =
      let set = hosts.set in
      let i = is-end at.setup.now set.one at.payload.now Past at.heard hosts.played end.side end.s in
      sym i.up ∙ ap (λ s. is_up_state s) (sym state ∙ e)

  fallen-is : (st : EndState) → state_at end.s own.core ≡ st → is_fallen end.side end.s Past ≡ is_fallen_state st
  fallen-is st e = ap (λ s. is_fallen_state s) (sym state ∙ e)

  told-is : (st : EndState) → state_at end.s own.core ≡ st → told at.setup.now at.payload.now Past Told_by ≡ end_told at.setup.now at.payload.now end (Writes Taken_in) Past st
  told-is st e = ap (λ s. end_told at.setup.now at.payload.now end (Writes Taken_in) Past s) (sym state ∙ e)

  lent-up : LentToUp at.setup.now at.payload.now Past
  lent-up =
      let set = hosts.set in
      let w = played at.setup.now set.one at.payload.now Past at.heard hosts.played in
      lent-to-up at.setup.now at.payload.now w.stage Past w.world (has-lendings at.setup.now set.one at.payload.now Past at.heard hosts.played)

  -- what the managers do
  nothing : is_up end.side end.s Past ≡ false → (actor : ℕ) (regions : List Buffer) → IsNothing at.setup.now at.payload.now regions (E actor) Past
  nothing down actor regions =
      let set = hosts.set in
      let w = played at.setup.now set.one at.payload.now Past at.heard hosts.played in
      let n : ℕ = Now at.setup.now at.payload.now Past at.heard Told_by own theirs hosts few-past built in
      let p = plays at.setup.now at.payload.now Past at.heard Told_by own theirs hosts few-past built actor in
      let now : Entry = E actor in
      wrote-not at.setup.now at.payload.now regions w.stage Past w.world lent-up actor n now.posts end place len now.reply (p, shaken at.setup.now set.one at.payload.now (now ∷ Past) n p) down

  called : is_up end.side end.s Past ≡ true → (actor : ℕ) (regions : List Buffer) → IsCalled at.setup.now at.payload.now regions end.side end.s (Writes Taken_in) (E actor) Past
  called up actor regions =
      let set = hosts.set in
      let w = played at.setup.now set.one at.payload.now Past at.heard hosts.played in
      let n : ℕ = Now at.setup.now at.payload.now Past at.heard Told_by own theirs hosts few-past built in
      let p = plays at.setup.now at.payload.now Past at.heard Told_by own theirs hosts few-past built actor in
      let now : Entry = E actor in
      wrote at.setup.now at.payload.now regions w.stage Past w.world lent-up actor n now.posts end place len now.reply (p, shaken at.setup.now set.one at.payload.now (now ∷ Past) n p) up

  -- a write that an end refuses
  refused : (reply : Reply) (posts : List Post) → posts ≡ [] → told at.setup.now at.payload.now Past Told_by ≡ Plain reply → is_up end.side end.s Past ≡ false → is_fallen end.side end.s Past ≡ false
      → IsPlayedBy at Told_by reply posts end.side own theirs
  refused reply posts none is down standing = record {
    reply_is = sym (ap (λ t. reply_of at.heard t) is);
    posts_are = let n = nothing down 0 [] in none ∙ sym n.posts;
    after = λ actor. stays-after at.setup.now at.payload.now Past at.heard Told_by own theirs hosts few-past built is-write actor
        (λ s. let now : Entry = E actor in unfallen-writes at.payload.now s end place len now.reply Past standing) (λ s. refl) (λ s. refl) (nothing down actor);
  }

  pub write-absent : (posts : List Post) → posts ≡ [] → seen_state (state_at end.s own.core) ≡ Absent → IsPlayedBy at Told_by NoSocket posts end.side own theirs
  write-absent posts none seen =
      let is : state_at end.s own.core ≡ NoEnd = seen-absent (state_at end.s own.core) seen in
      refused NoSocket posts none (told-is NoEnd is) (up-is NoEnd is) (fallen-is NoEnd is)

  pub write-waits : (posts : List Post) → posts ≡ [] → (seen_state (state_at end.s own.core) ≡ Absent → ⊥) → (seen_state (state_at end.s own.core) ≡ Up → ⊥) → (seen_state (state_at end.s own.core) ≡ FellBack → ⊥)
      → IsPlayedBy at Told_by NotYet posts end.side own theirs
  write-waits posts none a u f =
      let set = hosts.set in
      let i = is-end at.setup.now set.one at.payload.now Past at.heard hosts.played end.side end.s in
      let st : EndState = state_at end.s own.core in
      let w = waits st a u f (ap (λ s. is_reset_state s) state ∙ i.reset) in
      let t = w.told at.setup.now at.payload.now end Past in
      refused NotYet posts none (told-is st refl ∙ t.0 Taken_in) (up-is st refl ∙ w.up) (fallen-is st refl ∙ w.fallen)

  -- an established end
  pub write-may : seen_state (state_at end.s own.core) ≡ Up → MayCall end.s (Writes Taken_in) own
  write-may seen =
      let is : state_at end.s own.core ≡ IsUp = seen-up (state_at end.s own.core) seen in
      may-call at.setup.now at.payload.now Past at.heard Told_by own theirs hosts few-past built is-write 0 end.s (Writes Taken_in) (called (up-is IsUp is) 0) is

  -- the plain end of one
  half-is : is_up end.side end.s Past ≡ true → (regions : List Buffer) → half_at end.s (records_of at.setup.now at.payload.now end.side Past) ≡ end_of at.setup.now at.payload.now end.side end.s Past
  half-is up regions =
      let o = hosts.own in
      let set = hosts.set in
      let c = up-conn at.setup.now at.payload.now (buffer_of at.setup.now at.payload.now end.side 1 Past ∷ []) end.side Past own.core o.side set.one at.heard hosts.played
      (has-lendings at.setup.now set.one at.payload.now Past at.heard hosts.played) end.s up in
      ap (λ (k : Option (Connection Half)). unwrap_or (option_map (λ (c : Connection Half). c.end) k) (fresh at.setup.now.number)) c.plain_is

  pub write-up : (result : Reply) (mine : Host) (posts : List Post) → seen_state (state_at end.s own.core) ≡ Up
      → ((m : Manager Half) → Represents own.core m → Plain result ≡ told_by_end end.s (Writes Taken_in) [] m)
      → ((m : Manager Half) → Represents own.core m → IsCalledAt end.s (Writes Taken_in) (length at.history.now + 1) m own mine posts)
      → IsPlayedBy at Told_by result posts end.side mine theirs
  write-up result mine posts seen tells calls =
      let o = hosts.own in
      let is : state_at end.s own.core ≡ IsUp = seen-up (state_at end.s own.core) seen in
      let up : is_up end.side end.s Past ≡ true = up-is IsUp is in
      let m : Manager Half = plain_at at.setup.now at.payload.now Past at.heard Told_by own theirs hosts few-past built end.side in
      let h : Half = end_of at.setup.now at.payload.now end.side end.s Past in
      let c = calls m o.side in
      let here = called up 0 (buffer_of at.setup.now at.payload.now end.side 1 Past ∷ []) in
      let peer : List ℕ = (half (other end.side) (pipe_of at.setup.now at.payload.now (group_on end.s Past) end.s Past)).out in
      record {
        reply_is = ap (λ t. reply_of at.heard t)
            (tells m o.side
            ∙ (ap (λ k. half_told (element_size at.setup.now) (Writes Taken_in) k [] (cause_of k.phase)) (half-is up [])
            ∙ (sym (write-told (element_size at.setup.now) Taken_in h peer (cause_of h.phase)) ∙ sym (told-is IsUp is))));
        posts_are = c.posts_are ∙ sym here.posts;
        after = λ actor. called-after at.setup.now at.payload.now Past at.heard Told_by own theirs hosts few-past built is-write actor
            (λ s. let now : Entry = E actor in unfallen-writes at.payload.now s end place len now.reply Past (fallen-is IsUp is)) (λ s. refl) (λ s. refl) end.s (Writes Taken_in) (called up actor) mine posts
            (subst (λ n. IsCalledAt end.s (Writes Taken_in) (n + 1) m own mine posts) (sym (length-reverse at.history.now)) c);
      }

  -- an end that has fallen back
  pub write-fell : (result : Reply) (mine : Host) (posts : List Post) → posts ≡ [] → seen_state (state_at end.s own.core) ≡ FellBack
      → mine.core ≡ own.core → (wire_at 1 mine) ≡ (wire_at 1 own)
      → result ≡ fallen_write false (free (outflow_at end.s own.flows.items).bytes) (length Taken_in) Open
      → mine.flows.items ≡ slice_set own.flows.items end.s (takes_in Taken_in (outflow_at end.s own.flows.items))
      → IsPlayedBy at Told_by result posts end.side mine theirs
  write-fell result mine posts none seen core wire says puts =
      let o = hosts.own in
      let t = hosts.theirs in
      let set = hosts.set in
      let is : state_at end.s own.core ≡ HasFallen = seen-fallen (state_at end.s own.core) seen in
      let down : is_up end.side end.s Past ≡ false = up-is HasFallen is in
      let fell : is_fallen end.side end.s Past ≡ true = fallen-is HasFallen is in
      let f = o.flows end.s socket in
      let n = nothing down 0 [] in
      record {
        reply_is = says ∙ (ap (λ (d : Direction). fallen_write false (free d) (length Taken_in) Open) f.held
            ∙ sym (ap (λ t. reply_of at.heard t) (fallen-call-told at.setup.now set.one at.payload.now Past at.heard hosts.played end (Writes Taken_in) fell)));
        posts_are = none ∙ sym n.posts;
        after = λ actor.
            let now : Entry = E actor in
            let q = plays at.setup.now at.payload.now Past at.heard Told_by own theirs hosts few-past built actor in
            let m : ℕ = Now at.setup.now at.payload.now Past at.heard Told_by own theirs hosts few-past built in
            idle-after at.setup.now at.payload.now Past at.heard Told_by own theirs hosts few-past built is-write actor (nothing down actor) mine theirs core wire refl refl
            (ap (λ (fs : List Outflow). length fs) puts ∙ (length-set own.flows.items end.s (takes_in Taken_in (outflow_at end.s own.flows.items)) ∙ o.sockets)) t.sockets
            (λ s l. subst (λ (fs : List Outflow). IsStreamAfter at.payload.now end.side s (now ∷ Past) (outflow_at s fs)) (sym puts)
            (own-written at.setup.now set.one at.payload.now now Past m q end place len refl fell own.flows.items o.sockets o.flows s l))
            (peer-flows at.setup.now at.payload.now Past at.heard Told_by own theirs hosts few-past built is-write actor (λ s. refl) (λ s. refl));
      }

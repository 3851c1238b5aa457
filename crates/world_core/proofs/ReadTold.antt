-- What a read is told after a played history, by what its end is: how many bytes are handed out, and which they are.
use Rattle.std.proofs.Common.{◌≡◌, ◌∙◌, ◌⊎◌, inl, inr, ℕ, ◌+◌, ◌-◌, ◌%◌, ◌<◌, ◌≤◌, ◌==◌, min, Bool, true, false, if◌then◌else◌, List, [], ◌∷◌, ◌++◌, length, take, drop, refl, ap, sym, subst, arith, append-nil, true≢false, eqb-true, ltb-false, nat_lt}
use Rattle.std.specs.Prelude.{Some, Option, option_map, unwrap_or, slice_index_or}
use Rattle.std.proofs.lemmas.List.{length-take, drop_all, nil_from_length}
use Rattle.smc_num.specs.declared.Side.{Side}
use Rattle.smc_num.specs.Names.{other}
use Rattle.rmb_region.specs.Regions.{Buffer, read_round, fresh as fresh_buffer}
use Rattle.tcp_pipe.specs.Streams.{Direction}
use Rattle.clc_wire.specs.declared.offer.Offer.{Offer}
use Rattle.pipe_model.specs.declared.entry.Entry.{Entry}
use Rattle.pipe_model.specs.declared.setup.Setup.{Setup}
use Rattle.pipe_model.specs.declared.event.End.{End}
use Rattle.pipe_model.specs.declared.event.Event.{Event}
use Rattle.pipe_model.specs.declared.event.Event.TheVariants.{Read}
use Rattle.pipe_model.specs.declared.reply.Reply.TheVariants.{NoSocket, NotYet, Empty}
use Rattle.pipe_model.specs.declared.closing.Phase.TheVariants.{Open}
use Rattle.pipe_model.specs.Closing.{cause_of}
use Rattle.pipe_model.specs.Ends.{Half, fresh, unread}
use Rattle.pipe_model.specs.Words.{element_size}
use Rattle.pipe_model.specs.History.{Offered}
use Rattle.pipe_model.specs.Posts.{offered_place}
use Rattle.pipe_model.specs.Parts.{IsCounted}
use Rattle.pipe_model.specs.Pipe.{half}
use Rattle.pipe_model.specs.Calls.{Reads, Told, Plain, Hands, half_told}
use Rattle.pipe_model.specs.Connections.{EndState, NoEnd, IsUp, HasFallen, end_state, is_up, group_on, part}
use Rattle.pipe_model.specs.Fallback.{is_fallen, is_fallen_state, fallen_read}
use Rattle.pipe_model.specs.Lending.{pipe_of, terms_of, lends_by}
use Rattle.pipe_model.specs.Replies.{told, end_told}
use Rattle.pipe_model.proofs.Pipes.{is-counted}
use Rattle.clc_handshake.specs.declared.stage.EndState.TheVariants.{Absent, Up, FellBack}
use Rattle.clc_handshake.specs.Stages.{seen_state}
use Rattle.conn_end.specs.Kept.{Kept}
use Rattle.conn_end.specs.Told.{Answers}
use Rattle.conn_end.specs.declared.answers.EndReply.{EndReply}
use Rattle.conn_end.specs.declared.answers.EndReply.TheVariants.{Take, Wrote as TookBytes, Full as NoRoom, Empty as NoneYet, End as AtEnd, Ended as HasEnded, Done as WasDone, Reset as ByReset}
use Rattle.side_core.specs.declared.route.Route.{Route}
use Rattle.side_core.specs.Acting.{handed_from, handed_out}
use Rattle.side_core.specs.Manager.{Manager, Represents, state_at}
use Rattle.side_core.specs.Records.{Connection, half_at, route_at}
use Rattle.world_core.specs.declared.host.Host.{Host}
use Rattle.world_core.specs.OneLink.{the_link}
use Rattle.world_core.specs.Sockets.{IsOffer}
use Rattle.world_core.specs.Managers.{manager_of, records_of, end_of, route_of}
use Rattle.world_core.specs.Landed.{buffer_of}
use Rattle.world_core.specs.Played.{IsOneLink, handed}
use Rattle.world_core.specs.Heard.{told_bytes}
use Rattle.world_core.specs.Sending.{outflow_at}
use Rattle.world_core.specs.Hosts.{AreHostsAfter}
use Rattle.world_core.specs.Calling.{taken}
use Rattle.world_core.proofs.PlayedWorlds.{played}
use Rattle.world_core.proofs.Handshaken.{shaken}
use Rattle.world_core.proofs.Pipes.{has-pipe}
use Rattle.world_core.proofs.LinkFacts.{up-has-offers}
use Rattle.world_core.proofs.TokensOnWay.{is-rmb, told-stand-on}
use Rattle.world_core.proofs.Stood.{IsElement, slice-length}
use Rattle.world_core.proofs.EndRecords.{state-is, up-conn}
use Rattle.world_core.proofs.CallStates.{is_up_state, is_reset_state, is-end, seen-absent, seen-up, seen-fallen, waits, absent-or}
use Rattle.world_core.proofs.ReadAnswers.{handed-is, told-bytes, told-count, answer-count, element-bytes}
use Rattle.world_core.proofs.AllLendings.{has-lendings}
use Rattle.world_core.proofs.StreamFronts.{fallen-call-told}
use Rattle.world_core.proofs.Plain.{twice}

-- what a read of a stream that is not done hands out
pub fallen-bytes : (held : List ℕ) (len : ℕ) → told_bytes (fallen_read false held len Open) ≡ take len held
fallen-bytes held len = by (len == 0) refl
  where
    none-here : (n : ℕ) (bytes : List ℕ) → length bytes ≡ 0 → [] ≡ take n bytes
    none-here n bytes e = sym (nil_from_length (take n bytes) (let t = length-take n bytes in omega (arith, t, e)))

    rest : (b : Bool) → nat_lt 0 (length held) ≡ b → told_bytes (if b then Hands (take len held) else Plain Empty) ≡ take len held
    rest true e = refl
    rest false e = none-here len held (omega (arith, ltb-false 0 (length held) e))

    by : (b : Bool) → (len == 0) ≡ b → told_bytes (if b then Hands [] else if nat_lt 0 (length held) then Hands (take len held) else Plain Empty) ≡ take len held
    by true e = sym (ap (λ n. take n held) (eqb-true len 0 e))
    by false e = rest (nat_lt 0 (length held)) refl

-- and how many they are
pub fallen-count : (held : List ℕ) (len : ℕ) → min (length held) len ≡ handed (fallen_read false held len Open)
fallen-count held len =
    (let e : min (length held) len ≡ min len (length held) = omega arith in e)
    ∙ (sym (length-take len held) ∙ (ap (λ (bs : List ℕ). length bs) (sym (fallen-bytes held len)) ∙ sym (handed-is (fallen_read false held len Open))))

-- the bytes that an answer hands out of an element, where they are all that there are places for
module _ (size : ℕ) (r : Route) (b : Buffer) (rd count : ℕ) (out places : List ℕ) (full : length places ≡ count) where
  none-handed : 0 ≡ count → [] ++ drop 0 places ≡ take count (drop rd out)
  none-handed e = nil_from_length places (full ∙ sym e) ∙ ap (λ n. take n (drop rd out)) e

  pub all-handed : (answer : EndReply) → taken answer ≡ count → ((from : ℕ) → answer ≡ Take from count → from ≡ rd % size)
      → read_round r.element.index (rd % size) count b ≡ take count (drop rd out) → length (take count (drop rd out)) ≡ count
      → r.element.rmb ≡ 1
      → handed_from answer (Some r) (b ∷ []) ++ drop (length (handed_from answer (Some r) (b ∷ []))) places ≡ take count (drop rd out)
  all-handed (Take from len) e at bytes long one =
      let here : handed_from (Take from len) (Some r) (b ∷ []) ≡ take count (drop rd out) =
      ap (λ k. read_round r.element.index from len (slice_index_or (b ∷ []) (k - 1) (fresh_buffer 0 0 0))) one
      ∙ (ap (λ n. read_round r.element.index from n b) e
      ∙ (ap (λ f. read_round r.element.index f count b) (at from (ap (λ n. Take from n) e))
      ∙ bytes)) in
      ap (λ (bs : List ℕ). bs ++ drop (length bs) places) here
      ∙ (ap (λ n. take count (drop rd out) ++ drop n places) long
      ∙ (ap (λ (bs : List ℕ). take count (drop rd out) ++ bs) (drop_all count places (omega (arith, full)))
      ∙ append-nil (take count (drop rd out))))
  all-handed (TookBytes n) e at bytes long one = none-handed e
  all-handed NoRoom e at bytes long one = none-handed e
  all-handed NoneYet e at bytes long one = none-handed e
  all-handed AtEnd e at bytes long one = none-handed e
  all-handed HasEnded e at bytes long one = none-handed e
  all-handed WasDone e at bytes long one = none-handed e
  all-handed (ByReset cause) e at bytes long one = none-handed e

module _ (setup : Setup) (payload : List ℕ) (past : List Entry) (heard : ℕ) (end : End) (len : ℕ) (own theirs : Host) (hosts : AreHostsAfter setup payload past heard end.side own theirs) (socket : end.s < setup.sockets) where
  abbrev pub read_event : Event
  read_event = Read end len

  abbrev pub read_told : Told
  read_told = told setup payload past read_event

  -- the two ends of its connection
  abbrev pub here : Half
  here = end_of setup payload end.side end.s past

  abbrev pub peer_out : List ℕ
  peer_out = (half (other end.side) (pipe_of setup payload (group_on end.s past) end.s past)).out

  abbrev Size : ℕ
  Size = element_size setup

  one : IsOneLink setup
  one = let set = hosts.set in set.one

  pub state : state_at end.s own.core ≡ end_state end.side end.s past
  state = let o = hosts.own in state-is setup payload (buffer_of setup payload end.side 1 past ∷ []) end.side past own.core o.side end.s socket

  pub up-is : (st : EndState) → state_at end.s own.core ≡ st → is_up end.side end.s past ≡ is_up_state st
  up-is st e = let i = is-end setup one payload past heard hosts.played end.side end.s in sym i.up ∙ ap (λ s. is_up_state s) (sym state ∙ e)

  pub fallen-is : (st : EndState) → state_at end.s own.core ≡ st → is_fallen end.side end.s past ≡ is_fallen_state st
  fallen-is st e = ap (λ s. is_fallen_state s) (sym state ∙ e)

  pub told-is : (st : EndState) → state_at end.s own.core ≡ st → read_told ≡ end_told setup payload end (Reads len) past st
  told-is st e = ap (λ s. end_told setup payload end (Reads len) past s) (sym state ∙ e)

  pub told-absent : seen_state (state_at end.s own.core) ≡ Absent → read_told ≡ Plain NoSocket
  told-absent seen = told-is NoEnd (seen-absent (state_at end.s own.core) seen)

  pub told-waits : (seen_state (state_at end.s own.core) ≡ Absent → ⊥) → (seen_state (state_at end.s own.core) ≡ Up → ⊥) → (seen_state (state_at end.s own.core) ≡ FellBack → ⊥) → read_told ≡ Plain NotYet
  told-waits a u f =
      let i = is-end setup one payload past heard hosts.played end.side end.s in
      let st : EndState = state_at end.s own.core in
      let w = waits st a u f (ap (λ s. is_reset_state s) state ∙ i.reset) in
      let t = w.told setup payload end past in
      told-is st refl ∙ t.1 len

  -- an end that is neither up nor fallen back hands out nothing
  pub none-told : (seen_state (state_at end.s own.core) ≡ Up → ⊥) → (seen_state (state_at end.s own.core) ≡ FellBack → ⊥) → 0 ≡ handed read_told
  none-told u f = by (absent-or (state_at end.s own.core))
    where
      by : (seen_state (state_at end.s own.core) ≡ Absent) ⊎ (seen_state (state_at end.s own.core) ≡ Absent → ⊥) → 0 ≡ handed read_told
      by (inl a) = sym (ap (λ t. handed t) (told-absent a))
      by (inr a) = sym (ap (λ t. handed t) (told-waits a u f))

  pub told-fell : seen_state (state_at end.s own.core) ≡ FellBack → read_told ≡ fallen_read false (outflow_at end.s theirs.flows.items).bytes.held len Open
  told-fell seen =
      let t = hosts.theirs in
      let f = t.flows end.s socket in
      fallen-call-told setup one payload past heard hosts.played end (Reads len) (fallen-is HasFallen (seen-fallen (state_at end.s own.core) seen))
      ∙ ap (λ (d : Direction). fallen_read false d.held len Open) (sym f.held)

  -- an established end
  module _ (seen : seen_state (state_at end.s own.core) ≡ Up) where
    pub up : is_up end.side end.s past ≡ true
    up = up-is IsUp (seen-up (state_at end.s own.core) seen)

    pub told-up : read_told ≡ half_told Size (Reads len) here peer_out (cause_of here.phase)
    told-up = told-is IsUp (seen-up (state_at end.s own.core) seen)

    pub is-open : here.phase ≡ Open
    is-open =
        let pipe_is = has-pipe setup payload end.s past heard hosts.played (shaken setup one payload past heard hosts.played) in
        let open_end = pipe_is.open_end end.side in
        open_end.phase

    abbrev Peer : Half
    Peer = half (other end.side) (pipe_of setup payload (group_on end.s past) end.s past)

    counted : IsCounted Size Peer here
    counted =
        let pipe_is = has-pipe setup payload end.s past heard hosts.played (shaken setup one payload past heard hosts.played) in
        let can = pipe_is.can_be in
        subst (λ (y : Side). IsCounted Size Peer (half y (pipe_of setup payload (group_on end.s past) end.s past))) (sym (twice end.side))
        (is-counted (terms_of setup) (other end.side) (part payload (group_on end.s past) end.s past) can.feasible)

    read-told : here.rd ≤ here.taken.told
    read-told =
        let pipe_is = has-pipe setup payload end.s past heard hosts.played (shaken setup one payload past heard hosts.played) in
        let open_end = pipe_is.open_end end.side in
        let shot = open_end.taken in
        let c = counted in
        by shot.aborted c.read_told
      where
        by : here.taken.aborted ≡ false → (here.taken.aborted ≡ true) ⊎ (here.rd ≤ here.taken.told) → here.rd ≤ here.taken.told
        by f (inl t) = absurd (true≢false (sym t ∙ f))
        by f (inr l) = l

    abbrev pub Count : ℕ
    Count = min len (unread here)

    pub fits : here.rd + Count ≤ length peer_out
    fits = let c = counted in let l = c.taken in let r = read-told in omega (arith, l, r)

    pub handed-count : handed read_told ≡ Count
    handed-count = ap (λ t. handed t) told-up ∙ told-count Size len here is-open peer_out fits

    pub bytes-are : told_bytes read_told ≡ take Count (drop here.rd peer_out)
    bytes-are = ap (λ t. told_bytes t) told-up ∙ told-bytes Size len here is-open peer_out

    abbrev Regions : List Buffer
    Regions = buffer_of setup payload end.side 1 past ∷ []

    -- the plain end
    pub half-is : half_at end.s (records_of setup payload end.side past) ≡ here
    half-is =
        let o = hosts.own in
        let c = up-conn setup payload Regions end.side past own.core o.side one heard hosts.played (has-lendings setup one payload past heard hosts.played) end.s up in
        ap (λ (k : Option (Connection Half)). unwrap_or (option_map (λ (c : Connection Half). c.end) k) (fresh setup.number)) c.plain_is

    -- what an answer of its manager says
    pub answers-here : (n : ℕ) (answer : EndReply) → ((m : Manager Half) → Represents own.core m → Answers m.records.terms.size (Reads n) (half_at end.s m.records) answer) → Answers Size (Reads n) here answer
    answers-here n answer says = let o = hosts.own in
        subst (λ (h : Half). Answers Size (Reads n) h answer) half-is (says (manager_of setup payload Regions end.side past) o.side)

    pub taken-count : (answer : EndReply) → Answers Size (Reads len) here answer → taken answer ≡ Count
    taken-count answer a = answer-count Size len here is-open answer a

    -- the bytes that it hands out of its element into as many places
    pub out-is : (places : List ℕ) (answer : EndReply) → length places ≡ Count → Answers Size (Reads (length places)) here answer
        → handed_out answer (route_at end.s own.core.records) own.core ++ drop (length (handed_out answer (route_at end.s own.core.records) own.core)) places ≡ take Count (drop here.rd peer_out)
    out-is places answer long a =
        let o = hosts.own in
        let w = played setup one payload past heard hosts.played in
        let c = up-conn setup payload Regions end.side past own.core o.side one heard hosts.played (has-lendings setup one payload past heard hosts.played) end.s up in
        let given = up-has-offers setup w.stage past w.world end.side end.s up end.side in
        let offer-is : c.own.offer ≡ given.0 = own-offer c.own given.0 (sym c.own_is ∙ given.1) in
        let given_offer : Offer = given.0 in
        let fact : IsOffer setup end.side given_offer.first c.own.offer = subst (λ (q : Offer). IsOffer setup end.side given_offer.first q) (sym offer-is) given.2 in
        let rmb = is-rmb setup one payload past heard hosts.played end.side in
        let b : Buffer = buffer_of setup payload end.side 1 past in
        let r : Route = route_of end.side end.s past (lends_by end.s c.own.link c.own.offer) in
        let element : IsElement Size (offered_place c.own.offer) b = record { whole = rmb.whole; size_is = rmb.size; rmb = fact.rmb ∙ sym rmb.rmb; low = fact.low; high = subst (λ n. c.own.offer.index ≤ n) (sym rmb.elements) fact.high } in
        let counts = counted in
        let q = counts.taken_fits in
        let l = counts.taken in
        let bytes : read_round c.own.offer.index (here.rd % Size) Count b ≡ take Count (drop here.rd peer_out) =
        element-bytes Size (offered_place c.own.offer) b element here.rd Count here.taken.told peer_out (let t = read-told in omega (arith, t)) l (omega (arith, q)) (told-stand-on setup one payload past heard hosts.played end.side end.s c.own c.own_is) in
        let all : taken answer ≡ Count = answer-count Size (length places) here is-open answer a ∙ (let e : min (length places) (unread here) ≡ Count = omega (arith, long) in e) in
        let k = c.kept in
        let st = k.stands in
        let route_is : route_at end.s own.core.records ≡ Some r = ap (λ (q : Option (Connection Kept)). option_map (λ (d : Connection Kept). d.route) q) k.kept_is ∙ ap (λ (d : Route). Some d) st.route in
        ap (λ (d : Option Route). handed_from answer d own.core.regions ++ drop (length (handed_from answer d own.core.regions)) places) route_is
        ∙ (ap (λ (bs : List Buffer). handed_from answer (Some r) bs ++ drop (length (handed_from answer (Some r) bs)) places) o.side.regions
        ∙ all-handed Size r b here.rd Count peer_out places long answer all (λ from e. let p = subst (λ (ans : EndReply). Answers Size (Reads (length places)) here ans) e a in p.place) bytes (slice-length here.rd Count peer_out fits) fact.rmb)
      where
        own-offer : (o : Offered) (q : Offer) → Some o ≡ Some (record { link = the_link; offer = q }) → o.offer ≡ q
        own-offer o q e = cc

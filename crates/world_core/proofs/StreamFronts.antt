-- What stands in the streams of a played history: the CLC messages that wait, and behind them the bytes of an end that has fallen back.
use Rattle.std.proofs.Common.{true≢false, ◌≡◌, ◌∙◌, ap, sym, subst, refl, arith, length-append, append_assoc, append-nil, length-drop, eqb-true}
use Rattle.std.proofs.lemmas.List.{length-take, take-take, take_min, drop_all, nil_from_length}
use Rattle.std.proofs.Math.Seq.{drop-append_seam, take-nil}
use Rattle.std.proofs.Math.Nat.{min-le_left, min_comm}
use Rattle.std.specs.Prelude.{Bool, List, Option, [], false, true, filter_map, flat_map, if◌then◌else◌, length, take, drop, min, ℕ, ◌+◌, ◌-◌, ◌==◌, ◌&&◌, ◌||◌, not, slice_index_or, ◌++◌, ◌≤◌, ◌∷◌, is_some}
use Rattle.smc_num.specs.declared.Side.{Side}
use Rattle.smc_num.specs.declared.Side.TheVariants.{A, B}
use Rattle.smc_num.specs.declared.LinkId.{LinkId}
use Rattle.smc_num.specs.Names.{head, other, same_side}
use Rattle.clc_wire.specs.declared.message.ClcMessage.{ClcMessage}
use Rattle.clc_wire.specs.Clc.{clc_bytes, clc_length}
use Rattle.pipe_model.specs.declared.reply.ResetCause.TheVariants.{PeerAbort}
use Rattle.pipe_model.specs.declared.reply.Reply.{Reply}
use Rattle.pipe_model.specs.declared.reply.Reply.TheVariants.{Idle, Opened, NameUsed, Declined, Wrote, Bytes, Full}
use Rattle.pipe_model.specs.declared.reply.Lack.TheVariants.{NotCapable}
use Rattle.pipe_model.specs.declared.event.End.{End}
use Rattle.pipe_model.specs.declared.event.Event.{Event}
use Rattle.pipe_model.specs.declared.event.Event.TheVariants.{Open as OpenEvent, Write, Read, Clc, Deliver, Complete}
use Rattle.pipe_model.specs.declared.setup.Setup.{Setup}
use Rattle.pipe_model.specs.declared.entry.Entry.{Entry}
use Rattle.pipe_model.specs.declared.closing.Phase.{Phase}
use Rattle.pipe_model.specs.declared.closing.Phase.TheVariants.{Open}
use Rattle.pipe_model.specs.Closing.{cause_of, struck, is_closing}
use Rattle.pipe_model.specs.Calls.{Call, Writes}
use Rattle.pipe_model.specs.Connections.{EndState, IsUp, HasFallen, end_state, early_state, is_up, after_event, after_loss, after_clc, group_on}
use Rattle.pipe_model.specs.Fabric.{loses_group_with}
use Rattle.pipe_model.specs.Fallback.{Whole, NoMessage, Queues, front, front_of, front_length, clc_in, fallen_call, fallen_write, has_finished, is_fallen, is_fallen_state, is_opened, is_raw, own_phase, peer_did, queue_told, queues, read_out, stream, stream_room, takes_clc, takes_message, untaken, written}
use Rattle.pipe_model.specs.Replies.{call_told, end_told, expects, fallen_told, front_told, open_told, told}
use Rattle.pipe_model.specs.Lawful.{reply_of}
use Rattle.pipe_model.specs.Fits.{Fits}
use Rattle.world_core.specs.Played.{IsMade, IsOneLink, IsPlayed}
use Rattle.world_core.specs.Sockets.{Accepted, AcceptFallen, AcceptRefused, AwaitsLink, Confirmed, Fallen, FirstAccepted, FirstConfirmed, FirstUp, FirstUpAtA, Proposed, Refused, Socket, StandsAt, Unopened, Up, early_at, end_at, opened_at, untaken_at}
use Rattle.world_core.specs.Sending.{acting_side}
use Rattle.world_core.proofs.ClcLengths.{IsMeasured, measured-new, first-measured}
use Rattle.world_core.proofs.ClcPosts.{IsAsked, News, NoNews, OneNews, news, no-clc-posts, none-in, puts}
use Rattle.world_core.specs.Streams.{may_post_clc}
use Rattle.world_core.proofs.Openings.{early-apart}
use Rattle.world_core.proofs.PlayedWorlds.{played}
use Rattle.world_core.proofs.QuietEvents.{by-side}
use Rattle.world_core.proofs.TakenMessages.{end-is}
use Rattle.world_core.proofs.Plain.{if-same, and-both, same-is, plus-none}

pub other-other : (x : Side) → other (other x) ≡ x
other-other A = refl
other-other B = refl

pub not-other : (x : Side) → x ≡ other x → ⊥
not-other A e = cc
not-other B e = cc

-- the peer of an end that has fallen back sent no message that it has not taken
heard : (setup : Setup) (k : Socket) (y : Side) → is_fallen_state (end_at k y) ≡ true → untaken_at setup k (other y) ≡ []
heard setup Unopened y e = refl
heard setup Fallen y e = refl
heard setup Proposed A e = refl
heard setup (Refused r) B e = refl
heard setup (FirstAccepted o) B e = refl
heard setup (FirstConfirmed o p) A e = refl
heard setup (AwaitsLink o p) y e = refl
heard setup (FirstUpAtA o p) y e = refl
heard setup (FirstUp o p) y e = refl
heard setup (Accepted o) B e = refl
heard setup (AcceptRefused o r) A e = refl
heard setup (AcceptFallen o) y e = refl
heard setup (Confirmed o p) A e = refl
heard setup (Up o p) y e = refl
heard setup _ A e = cc
heard setup _ B e = cc

-- at most one message waits
few : (setup : Setup) (k : Socket) (x : Side) → drop 1 (untaken_at setup k x) ≡ []
few setup Unopened x = refl
few setup Fallen x = refl
few setup Proposed A = refl
few setup Proposed B = refl
few setup (Refused r) A = refl
few setup (Refused r) B = refl
few setup (FirstAccepted o) A = refl
few setup (FirstAccepted o) B = refl
few setup (FirstConfirmed o p) A = refl
few setup (FirstConfirmed o p) B = refl
few setup (AwaitsLink o p) x = refl
few setup (FirstUpAtA o p) x = refl
few setup (FirstUp o p) x = refl
few setup (Accepted o) A = refl
few setup (Accepted o) B = refl
few setup (AcceptRefused o r) A = refl
few setup (AcceptRefused o r) B = refl
few setup (AcceptFallen o) x = refl
few setup (Confirmed o p) A = refl
few setup (Confirmed o p) B = refl
few setup (Up o p) x = refl

-- an end that was down and has fallen is not up
not-up : (k : Socket) (x : Side) → early_at k x ≡ HasFallen → is_fallen_state (end_at k x) ≡ true
not-up Unopened x e = ap is_fallen_state e
not-up Fallen x e = ap is_fallen_state e
not-up Proposed A e = ap is_fallen_state e
not-up Proposed B e = ap is_fallen_state e
not-up (Refused r) A e = ap is_fallen_state e
not-up (Refused r) B e = ap is_fallen_state e
not-up (FirstAccepted o) A e = ap is_fallen_state e
not-up (FirstAccepted o) B e = ap is_fallen_state e
not-up (FirstConfirmed o p) A e = ap is_fallen_state e
not-up (FirstConfirmed o p) B e = ap is_fallen_state e
not-up (AwaitsLink o p) x e = ap is_fallen_state e
not-up (FirstUpAtA o p) A e = ap is_fallen_state e
not-up (FirstUpAtA o p) B e = ap is_fallen_state e
not-up (FirstUp o p) x e = ap is_fallen_state e
not-up (Accepted o) A e = ap is_fallen_state e
not-up (Accepted o) B e = ap is_fallen_state e
not-up (AcceptRefused o r) A e = ap is_fallen_state e
not-up (AcceptRefused o r) B e = ap is_fallen_state e
not-up (AcceptFallen o) x e = ap is_fallen_state e
not-up (Confirmed o p) A e = ap is_fallen_state e
not-up (Confirmed o p) B e = ap is_fallen_state e
not-up (Up o p) A e = ap is_fallen_state e
not-up (Up o p) B e = ap is_fallen_state e

pub state-fallen : (state : EndState) → is_fallen_state state ≡ true → state ≡ HasFallen
state-fallen HasFallen e = refl
state-fallen _ e = cc

down-fallen : (up : Bool) (state : EndState) → (if up then IsUp else state) ≡ HasFallen → state ≡ HasFallen
down-fallen true state e = cc
down-fallen false state e = e

stays-lost : (lost : Bool) (group : ℕ) → after_loss lost group HasFallen ≡ HasFallen
stays-lost true group = refl
stays-lost false group = refl

-- what an application writes and takes out
abbrev pub put-of : Reply → List ℕ → List ℕ
put-of (Wrote n) rest = take n rest
put-of _ rest = []

abbrev pub taken-of : Reply → ℕ
taken-of (Bytes from n) = n
taken-of _ = 0

pub written-by : (payload : List ℕ) (x : Side) (s : ℕ) (end : End) (at len : ℕ) (reply : Reply) (past : List Entry)
    → written payload x s (Write end at len) reply past ≡ (if same_side x end.side && ((s == end.s) && is_fallen x s past) then put-of reply (drop at payload) else [])
written-by payload A s end at len (Wrote n) past = refl
written-by payload B s end at len (Wrote n) past = refl
written-by payload A s end at len reply past = sym (if-same (same_side A end.side && ((s == end.s) && is_fallen A s past)) [])
written-by payload B s end at len reply past = sym (if-same (same_side B end.side && ((s == end.s) && is_fallen B s past)) [])

pub read-by : (x : Side) (s : ℕ) (end : End) (len : ℕ) (reply : Reply) (past : List Entry)
    → read_out x s (Read end len) reply past ≡ (if same_side (other x) end.side && ((s == end.s) && is_fallen (other x) s past) then taken-of reply else 0)
read-by x s end len (Bytes from n) past = refl
read-by x s end len reply past = sym (if-same (same_side (other x) end.side && ((s == end.s) && is_fallen (other x) s past)) 0)

-- the other events write nothing
pub open-writes : (payload : List ℕ) (x : Side) (s t : ℕ) (reply : Reply) (past : List Entry) → written payload x s (OpenEvent t) reply past ≡ []
open-writes payload A s t reply past = refl
open-writes payload B s t reply past = refl

pub clc-writes : (payload : List ℕ) (x : Side) (s t : ℕ) (dir : Side) (reply : Reply) (past : List Entry) → written payload x s (Clc t dir) reply past ≡ []
clc-writes payload A s t dir reply past = refl
clc-writes payload B s t dir reply past = refl

pub read-writes : (payload : List ℕ) (x : Side) (s : ℕ) (end : End) (len : ℕ) (reply : Reply) (past : List Entry) → written payload x s (Read end len) reply past ≡ []
read-writes payload A s end len reply past = refl
read-writes payload B s end len reply past = refl

pub deliver-writes : (payload : List ℕ) (x : Side) (s slot : ℕ) (dir : Side) (reply : Reply) (past : List Entry) → written payload x s (Deliver slot dir) reply past ≡ []
deliver-writes payload A s slot dir reply past = refl
deliver-writes payload B s slot dir reply past = refl

pub complete-writes : (payload : List ℕ) (x : Side) (s slot : ℕ) (dir : Side) (reply : Reply) (past : List Entry) → written payload x s (Complete slot dir) reply past ≡ []
complete-writes payload A s slot dir reply past = refl
complete-writes payload B s slot dir reply past = refl

-- what a write on an end that has fallen back puts in, by its reply
nil-of : (xs : List ℕ) → (length xs == 0) ≡ true → xs ≡ []
nil-of xs e = nil_from_length xs (eqb-true (length xs) 0 e)

pub wrote-is : (payload : List ℕ) (at len room : ℕ) (reply : Reply) → reply ≡ fallen_write false room (length (take len (drop at payload))) Open
    → put-of reply (drop at payload) ≡ take room (take len (drop at payload))
wrote-is payload at len room reply r = by (length bytes == 0) (room == 0) refl refl
  where
    rest : List ℕ
    rest = drop at payload

    bytes : List ℕ
    bytes = take len rest

    least : take (min (length bytes) room) rest ≡ take room bytes
    least =
        let long = length-take len rest in
        let low = min-le_left (length bytes) room in
        let most = min-le_left len (length rest) in
        sym (take-take (min (length bytes) room) len rest (omega (arith, long, low, most)))
        ∙ (ap (λ n. take n bytes) (min_comm (length bytes) room) ∙ take_min room bytes)

    row : Bool → Bool → Reply
    row none full = if none then Wrote 0 else if full then Full else Wrote (min (length bytes) room)

    by : (none full : Bool) → (length bytes == 0) ≡ none → (room == 0) ≡ full → put-of reply rest ≡ take room bytes
    by true full e f =
        ap (λ q. put-of q rest) (r ∙ ap (λ b. row b (room == 0)) e) ∙ (sym (take-nil room) ∙ ap (λ (xs : List ℕ). take room xs) (sym (nil-of bytes e)))
    by false true e f =
        ap (λ q. put-of q rest) (r ∙ (ap (λ b. row b (room == 0)) e ∙ ap (λ b. row false b) f)) ∙ ap (λ n. take n bytes) (sym (eqb-true room 0 f))
    by false false e f = ap (λ q. put-of q rest) (r ∙ (ap (λ b. row b (room == 0)) e ∙ ap (λ b. row false b) f)) ∙ least

module _ (setup : Setup) (one : IsOneLink setup) (payload : List ℕ) where
  at-socket : (past : List Entry) (n : ℕ) → IsPlayed setup payload past n → (s : ℕ) → (k : Socket) × StandsAt setup k s past
  at-socket past n q s = let g = played setup one payload past n q in let w = g.world in let h = w.sockets s in (h.at, h.stands)

  pub never-raw : (past : List Entry) (n : ℕ) → IsPlayed setup payload past n → (s : ℕ) → is_raw s past ≡ false
  never-raw past n q s = let h = at-socket past n q s in let at = h.1 in at.raw

  fallen-at : (past : List Entry) (k : Socket) (s : ℕ) → StandsAt setup k s past → (x : Side) → is_fallen x s past ≡ is_fallen_state (end_at k x)
  fallen-at past k s at x = ap is_fallen_state (end-is setup k s past at x)

  pub fallen-heard-all : (past : List Entry) (n : ℕ) → IsPlayed setup payload past n → (y : Side) (s : ℕ) → is_fallen y s past ≡ true → untaken (other y) s past ≡ []
  fallen-heard-all past n q y s f =
      let h = at-socket past n q s in
      let at = h.1 in
      at.messages (other y) ∙ heard setup h.0 y (sym (fallen-at past h.0 s at y) ∙ f)

  pub few-untaken : (past : List Entry) (n : ℕ) → IsPlayed setup payload past n → (x : Side) (s : ℕ) → drop 1 (untaken x s past) ≡ []
  few-untaken past n q x s =
      let h = at-socket past n q s in
      let at = h.1 in
      ap (λ (ms : List ClcMessage). drop 1 ms) (at.messages x) ∙ few setup h.0 x

  -- nobody has closed
  pub phases-open : (past : List Entry) (n : ℕ) → IsPlayed setup payload past n → (x : Side) (s : ℕ) → own_phase x s past ≡ Open
  phases-open [] n q x s = refl
  phases-open (e ∷ past) n q x s = ap (λ phase. fallen_call x s e.event e.reply phase) (phases-open past q.0 q.3 x s) ∙ by_event e.event (built q.1)
    where
      built : IsMade setup payload past q.0 e → Fits setup (length payload) e.event
      built m = m.built

      by_event : (event : Event) → Fits setup (length payload) event → fallen_call x s event e.reply Open ≡ Open
      by_event (OpenEvent t) b = refl
      by_event (Clc t dir) b = refl
      by_event (Write end at len) b = refl
      by_event (Read end len) b = refl
      by_event (Deliver slot dir) b = refl
      by_event (Complete slot dir) b = refl
      by_event event b = absurd b

  -- the two queues of an end, as nobody has closed
  abbrev pub open-queues : Side → ℕ → List Entry → Queues
  open-queues x s past = record { phase = Open; peer_done = false; peer_closed = false; room = stream_room - length (stream payload x s past); held = stream payload (other x) s past }

  module _ (past : List Entry) (n : ℕ) (q : IsPlayed setup payload past n) (x : Side) (s : ℕ) where
    did-nothing : (f : Phase → Bool) → f Open ≡ false → peer_did f x s past ≡ false
    did-nothing f e = ap (λ phase. is_fallen (other x) s past && f phase) (phases-open past n q (other x) s) ∙ (ap (λ b. is_fallen (other x) s past && b) e ∙ never (is_fallen (other x) s past))
      where
        never : (b : Bool) → (b && false) ≡ false
        never true = refl
        never false = refl

    queues-open : queues payload x s past ≡ open-queues x s past
    queues-open =
        ap (λ b. record { phase = if b then struck PeerAbort (own_phase x s past) else own_phase x s past; peer_done = peer_did has_finished x s past; peer_closed = peer_did is_closing x s past; room = stream_room - length (stream payload x s past); held = stream payload (other x) s past }) (did-nothing (λ phase. is_some (cause_of phase)) refl)
        ∙ (ap (λ phase. record { phase = phase; peer_done = peer_did has_finished x s past; peer_closed = peer_did is_closing x s past; room = stream_room - length (stream payload x s past); held = stream payload (other x) s past }) (phases-open past n q x s)
        ∙ (ap (λ b. record { phase = Open; peer_done = b; peer_closed = peer_did is_closing x s past; room = stream_room - length (stream payload x s past); held = stream payload (other x) s past }) (did-nothing has_finished refl)
        ∙ ap (λ b. record { phase = Open; peer_done = false; peer_closed = b; room = stream_room - length (stream payload x s past); held = stream payload (other x) s past }) (did-nothing is_closing refl)))

  -- what a call on an end that has fallen back is told
  pub fallen-call-told : (past : List Entry) (n : ℕ) → IsPlayed setup payload past n → (end : End) (call : Call) → is_fallen end.side end.s past ≡ true
      → call_told setup payload end call past ≡ queue_told call (open-queues end.side end.s past)
  fallen-call-told past n q end call f =
      ap (λ state. end_told setup payload end call past state) (state-fallen (end_state end.side end.s past) f)
      ∙ ap (λ (qs : Queues). fallen_told call qs (cause_of qs.phase)) (queues-open past n q end.side end.s)

  -- an end that has fallen back is opened, and stays so
  fallen-opened : (k : Socket) (x : Side) → is_fallen_state (end_at k x) ≡ true → opened_at k ≡ true
  fallen-opened Unopened x e = cc
  fallen-opened _ x e = refl

  fallen-waits-not : (past : List Entry) (x : Side) (s : ℕ) → is_fallen x s past ≡ true → expects (end_state x s past) ≡ false
  fallen-waits-not past x s f = ap expects (state-fallen (end_state x s past) f)

  module _ (e : Entry) (past : List Entry) (n : ℕ) (p : IsPlayed setup payload (e ∷ past) n) where
    made : IsMade setup payload past p.0 e
    made = p.1

    pub told-is : (event : Event) → e.event ≡ event → e.reply ≡ reply_of p.0 (told setup payload past event)
    told-is event is = made.reply ∙ ap (λ v. reply_of p.0 (told setup payload past v)) is

    -- what an event makes of it
    event-keeps : (x : Side) (s : ℕ) → is_fallen x s past ≡ true → after_event x s e.event e.reply HasFallen ≡ HasFallen
    event-keeps x s f = by_event e.event refl
      where
        of : (event : Event) → e.event ≡ event → after_event x s event e.reply HasFallen ≡ HasFallen → after_event x s e.event e.reply HasFallen ≡ HasFallen
        of event is k = ap (λ v. after_event x s v e.reply HasFallen) is ∙ k

        by_open : (t : ℕ) → e.event ≡ OpenEvent t → (b : Bool) → (s == t) ≡ b → after_event x s (OpenEvent t) e.reply HasFallen ≡ HasFallen
        by_open t is false g = early-apart setup e.actor t past x s e.reply HasFallen g
        by_open t is true g =
            let h = at-socket past p.0 p.3 s in
            let at = h.1 in
            let opened : is_opened s past ≡ true = at.opened ∙ fallen-opened h.0 x (sym (fallen-at past h.0 s at x) ∙ f) in
            let opened_t : is_opened t past ≡ true = ap (λ r. is_opened r past) (sym (eqb-true s t g)) ∙ opened in
            let named : e.reply ≡ NameUsed = told-is (OpenEvent t) is ∙ name-used t opened_t in
            ap (λ q. after_event x s (OpenEvent t) q HasFallen) named ∙ by-side (λ y. after_event y s (OpenEvent t) NameUsed HasFallen ≡ HasFallen) refl refl x
          where
            name-used : (u : ℕ) → is_opened u past ≡ true → open_told setup u past ≡ NameUsed
            name-used u o = ap (λ b. if b || is_raw u past then NameUsed else if not (slice_index_or setup.capable 0 false && slice_index_or setup.capable 1 false) then Declined (NotCapable (slice_index_or setup.capable 0 false) (slice_index_or setup.capable 1 false)) else Opened) o

        by_clc : (t : ℕ) (dir : Side) → e.event ≡ Clc t dir → (b c : Bool) → (s == t) ≡ b → same_side x dir ≡ c → after_event x s (Clc t dir) e.reply HasFallen ≡ HasFallen
        by_clc t dir is b true g h = own x dir (same-is x dir h)
          where
            own : (y d : Side) → y ≡ d → after_event y s (Clc t d) e.reply HasFallen ≡ HasFallen
            own A A i = refl
            own B B i = refl
            own A B i = cc
            own B A i = cc
        by_clc t dir is false false g h = else_where x dir
          where
            else_where : (y d : Side) → after_event y s (Clc t d) e.reply HasFallen ≡ HasFallen
            else_where A A = refl
            else_where B B = refl
            else_where A B = ap (λ b. if b then after_clc e.reply HasFallen else HasFallen) g
            else_where B A = ap (λ b. if b then after_clc e.reply HasFallen else HasFallen) g
        by_clc t dir is true false g h =
            let opposite : x ≡ other dir = across x dir h in
            let waits : expects (end_state (other dir) t past) ≡ false =
            ap (λ y. expects (end_state y t past)) (sym opposite) ∙ (ap (λ r. expects (end_state x r past)) (sym (eqb-true s t g)) ∙ fallen-waits-not past x s f) in
            let idle : e.reply ≡ Idle = told-is (Clc t dir) is ∙ ap (λ b. if b then front_told setup payload (other dir) t past (front payload dir t past) else Idle) waits in
            ap (λ q. after_event x s (Clc t dir) q HasFallen) idle ∙ idle_keeps x dir
          where
            across : (y d : Side) → same_side y d ≡ false → y ≡ other d
            across A A i = cc
            across B B i = cc
            across A B i = refl
            across B A i = refl

            idle_keeps : (y d : Side) → after_event y s (Clc t d) Idle HasFallen ≡ HasFallen
            idle_keeps A A = refl
            idle_keeps B B = refl
            idle_keeps A B = if-same (s == t) HasFallen
            idle_keeps B A = if-same (s == t) HasFallen

        by_event : (event : Event) → e.event ≡ event → after_event x s e.event e.reply HasFallen ≡ HasFallen
        by_event (OpenEvent t) is = of (OpenEvent t) is (by_open t is (s == t) refl)
        by_event (Clc t dir) is = of (Clc t dir) is (by_clc t dir is (s == t) (same_side x dir) refl refl)
        by_event (Write end at len) is = of (Write end at len) is (by-side (λ y. after_event y s (Write end at len) e.reply HasFallen ≡ HasFallen) refl refl x)
        by_event (Read end len) is = of (Read end len) is (by-side (λ y. after_event y s (Read end len) e.reply HasFallen ≡ HasFallen) refl refl x)
        by_event (Deliver slot dir) is = of (Deliver slot dir) is (by-side (λ y. after_event y s (Deliver slot dir) e.reply HasFallen ≡ HasFallen) refl refl x)
        by_event (Complete slot dir) is = of (Complete slot dir) is (by-side (λ y. after_event y s (Complete slot dir) e.reply HasFallen ≡ HasFallen) refl refl x)
        by_event event is = absurd (subst (Fits setup (length payload)) is made.built)

    pub fallen-stays : (x : Side) (s : ℕ) → is_fallen x s past ≡ true → is_fallen x s (e ∷ past) ≡ true
    fallen-stays x s f =
        let h = at-socket (e ∷ past) n p s in
        let at = h.1 in
        let before : early_state x s past ≡ HasFallen = down-fallen (is_up x s past) (early_state x s past) (state-fallen (end_state x s past) f) in
        let lost : Bool = loses_group_with x (group_on s past) e past in
        let now : early_state x s (e ∷ past) ≡ HasFallen =
        ap (λ state. after_loss lost (group_on s past) (after_event x s e.event e.reply state)) before
        ∙ (ap (λ state. after_loss lost (group_on s past) state) (event-keeps x s f) ∙ stays-lost lost (group_on s past)) in
        fallen-at (e ∷ past) h.0 s at x ∙ not-up h.0 x (sym (at.early x) ∙ now)

    pub unfallen-before : (x : Side) (s : ℕ) → is_fallen x s (e ∷ past) ≡ false → is_fallen x s past ≡ false
    unfallen-before x s f = by (is_fallen x s past) refl
      where
        by : (b : Bool) → is_fallen x s past ≡ b → is_fallen x s past ≡ false
        by true g = absurd (true≢false (sym (fallen-stays x s g) ∙ f))
        by false g = g

    -- what an entry does to the stream of a side on a socket: bytes of an application come in, or nothing does; a CLC message comes in;
    -- the one that waits is taken; or bytes are read out of it
    pub data Moving (x : Side) (s : ℕ) : Type 0 where
      Grows : (bytes : List ℕ) → takes_clc x s e.event e.reply ≡ false → read_out x s e.event e.reply past ≡ 0 → filter_map (clc_in x s) e.posts ≡ [] → written payload x s e.event e.reply past ≡ bytes
          → (is_fallen x s past ≡ false → bytes ≡ []) → length bytes ≤ stream_room - length (stream payload x s past) → Moving x s
      Posts : (link : Option LinkId) (m : ClcMessage) → takes_clc x s e.event e.reply ≡ false → read_out x s e.event e.reply past ≡ 0 → filter_map (clc_in x s) e.posts ≡ m ∷ [] → written payload x s e.event e.reply past ≡ []
          → IsAsked setup payload past x s link m → Moving x s
      Takes : (m : ClcMessage) → takes_clc x s e.event e.reply ≡ true → read_out x s e.event e.reply past ≡ 0 → filter_map (clc_in x s) e.posts ≡ [] → written payload x s e.event e.reply past ≡ []
          → untaken x s past ≡ m ∷ [] → Moving x s
      Reads-out : (k : ℕ) → takes_clc x s e.event e.reply ≡ false → read_out x s e.event e.reply past ≡ k → filter_map (clc_in x s) e.posts ≡ [] → written payload x s e.event e.reply past ≡ []
          → is_fallen (other x) s past ≡ true → Moving x s

    by-news : (x : Side) (s : ℕ) → takes_clc x s e.event e.reply ≡ false → read_out x s e.event e.reply past ≡ 0 → written payload x s e.event e.reply past ≡ [] → Moving x s
    by-news x s t r w = by (news setup payload e past (puts setup one payload e past n p) x s)
      where
        by : News setup payload e past x s → Moving x s
        by (NoNews none) = Grows [] t r none w (λ f. refl) (omega arith)
        by (OneNews link m is offers side a) = Posts link m t r is w a

    -- a message that is taken is the one that waits
    pub taken-waits : (t : ℕ) (dir : Side) → e.event ≡ Clc t dir → takes_message e.reply ≡ true → (m : ClcMessage) × (untaken dir t past ≡ m ∷ [])
    taken-waits t dir is takes = by (untaken dir t past) refl (few-untaken past p.0 p.3 dir t)
      where
        idle : (b : Bool) → (if b then Idle else Idle) ≡ Idle
        idle true = refl
        idle false = refl

        by : (ms : List ClcMessage) → untaken dir t past ≡ ms → drop 1 (untaken dir t past) ≡ [] → (m : ClcMessage) × (untaken dir t past ≡ m ∷ [])
        by [] g f =
            let nothing : front payload dir t past ≡ NoMessage =
            ap (λ b. front_of b (stream payload dir t past) (untaken dir t past)) (never-raw past p.0 p.3 t) ∙ ap (λ ms. front_of false (stream payload dir t past) ms) g in
            let told : e.reply ≡ Idle =
            told-is (Clc t dir) is ∙ (ap (λ fr. if expects (end_state (other dir) t past) then front_told setup payload (other dir) t past fr else Idle) nothing ∙ idle (expects (end_state (other dir) t past))) in
            absurd (true≢false (sym takes ∙ ap takes_message told))
        by (m ∷ ms) g f = (m, g ∙ ap (λ ks. m ∷ ks) (sym (ap (λ ks. drop 1 ks) g) ∙ f))

    pub moving : (x : Side) (s : ℕ) → Moving x s
    moving x s = by_event e.event refl
      where
        takes-as : (event : Event) → e.event ≡ event → takes_clc x s e.event e.reply ≡ takes_clc x s event e.reply
        takes-as event is = ap (λ v. takes_clc x s v e.reply) is

        reads-as : (event : Event) → e.event ≡ event → read_out x s e.event e.reply past ≡ read_out x s event e.reply past
        reads-as event is = ap (λ v. read_out x s v e.reply past) is

        writes-as : (event : Event) → e.event ≡ event → written payload x s e.event e.reply past ≡ written payload x s event e.reply past
        writes-as event is = ap (λ v. written payload x s v e.reply past) is

        none-posted : (event : Event) → e.event ≡ event → may_post_clc event ≡ false → filter_map (clc_in x s) e.posts ≡ []
        none-posted event is none = none-in x s e.posts (no-clc-posts setup one payload e past n p (ap may_post_clc is ∙ none))

        by_clc : (t : ℕ) (dir : Side) → e.event ≡ Clc t dir → (b : Bool) → takes_clc x s (Clc t dir) e.reply ≡ b → Moving x s
        by_clc t dir is false g = by-news x s (takes-as (Clc t dir) is ∙ g) (reads-as (Clc t dir) is) (writes-as (Clc t dir) is ∙ clc-writes payload x s t dir e.reply past)
        by_clc t dir is true g =
            let both = and-both (s == t) (same_side x dir && takes_message e.reply) g in
            let rest = and-both (same_side x dir) (takes_message e.reply) both.1 in
            let side : x ≡ dir = same-is x dir rest.0 in
            let socket : s ≡ t = eqb-true s t both.0 in
            let w = taken-waits t dir is rest.1 in
            let there : untaken x s past ≡ w.0 ∷ [] = ap (λ y. untaken y s past) side ∙ (ap (λ r. untaken dir r past) socket ∙ w.1) in
            by_news w.0 there side (news setup payload e past (puts setup one payload e past n p) x s)
          where
            by_news : (m : ClcMessage) → untaken x s past ≡ m ∷ [] → x ≡ dir → News setup payload e past x s → Moving x s
            by_news m there side (NoNews none) = Takes m (takes-as (Clc t dir) is ∙ g) (reads-as (Clc t dir) is) none (writes-as (Clc t dir) is ∙ clc-writes payload x s t dir e.reply past) there
            by_news m there side (OneNews link k posted offers acts a) = absurd (not-other x (acts ∙ (ap acting_side is ∙ ap other (sym side))))

        by_read : (end : End) (len : ℕ) → e.event ≡ Read end len → (b : Bool) → (same_side (other x) end.side && ((s == end.s) && is_fallen (other x) s past)) ≡ b → Moving x s
        by_read end len is false g =
            Grows [] (takes-as (Read end len) is) (reads-as (Read end len) is ∙ (read-by x s end len e.reply past ∙ ap (λ b. if b then taken-of e.reply else 0) g)) (none-posted (Read end len) is refl)
            (writes-as (Read end len) is ∙ read-writes payload x s end len e.reply past) (λ f. refl) (omega arith)
        by_read end len is true g =
            let both = and-both (same_side (other x) end.side) ((s == end.s) && is_fallen (other x) s past) g in
            let rest = and-both (s == end.s) (is_fallen (other x) s past) both.1 in
            Reads-out (taken-of e.reply) (takes-as (Read end len) is) (reads-as (Read end len) is ∙ (read-by x s end len e.reply past ∙ ap (λ b. if b then taken-of e.reply else 0) g)) (none-posted (Read end len) is refl)
            (writes-as (Read end len) is ∙ read-writes payload x s end len e.reply past) rest.1

        by_write : (end : End) (at len : ℕ) → e.event ≡ Write end at len → (b : Bool) → (same_side x end.side && ((s == end.s) && is_fallen x s past)) ≡ b → Moving x s
        by_write end at len is false g =
            Grows [] (takes-as (Write end at len) is) (reads-as (Write end at len) is) (none-posted (Write end at len) is refl)
            (writes-as (Write end at len) is ∙ (written-by payload x s end at len e.reply past ∙ ap (λ b. if b then put-of e.reply (drop at payload) else []) g)) (λ f. refl) (omega arith)
        by_write end at len is true g =
            let both = and-both (same_side x end.side) ((s == end.s) && is_fallen x s past) g in
            let rest = and-both (s == end.s) (is_fallen x s past) both.1 in
            let bytes : List ℕ = take (stream_room - length (stream payload x s past)) (take len (drop at payload)) in
            let long = length-take (stream_room - length (stream payload x s past)) (take len (drop at payload)) in
            let low = min-le_left (stream_room - length (stream payload x s past)) (length (take len (drop at payload))) in
            Grows bytes (takes-as (Write end at len) is) (reads-as (Write end at len) is) (none-posted (Write end at len) is refl)
            (writes-as (Write end at len) is ∙ (written-by payload x s end at len e.reply past ∙ (ap (λ b. if b then put-of e.reply (drop at payload) else []) g ∙ put end at len is (same-is x end.side both.0) (eqb-true s end.s rest.0) rest.1)))
            (λ f. absurd (true≢false (sym rest.1 ∙ f))) (omega (arith, long, low))
          where
            put : (end : End) (at len : ℕ) → e.event ≡ Write end at len → x ≡ end.side → s ≡ end.s → is_fallen x s past ≡ true
                → put-of e.reply (drop at payload) ≡ take (stream_room - length (stream payload x s past)) (take len (drop at payload))
            put end at len is side socket f =
                let room : stream_room - length (stream payload end.side end.s past) ≡ stream_room - length (stream payload x s past) =
                ap (λ y. stream_room - length (stream payload y end.s past)) (sym side) ∙ ap (λ r. stream_room - length (stream payload x r past)) (sym socket) in
                let fallen : is_fallen end.side end.s past ≡ true = ap (λ y. is_fallen y end.s past) (sym side) ∙ (ap (λ r. is_fallen x r past) (sym socket) ∙ f) in
                let told : e.reply ≡ fallen_write false (stream_room - length (stream payload end.side end.s past)) (length (take len (drop at payload))) Open =
                told-is (Write end at len) is ∙ ap (λ t. reply_of p.0 t) (fallen-call-told past p.0 p.3 end (Writes (take len (drop at payload))) fallen) in
                wrote-is payload at len (stream_room - length (stream payload end.side end.s past)) e.reply told ∙ ap (λ k. take k (take len (drop at payload))) room

        by_event : (event : Event) → e.event ≡ event → Moving x s
        by_event (OpenEvent t) is = by-news x s (takes-as (OpenEvent t) is) (reads-as (OpenEvent t) is) (writes-as (OpenEvent t) is ∙ open-writes payload x s t e.reply past)
        by_event (Clc t dir) is = by_clc t dir is (takes_clc x s (Clc t dir) e.reply) refl
        by_event (Read end len) is = by_read end len is (same_side (other x) end.side && ((s == end.s) && is_fallen (other x) s past)) refl
        by_event (Write end at len) is = by_write end at len is (same_side x end.side && ((s == end.s) && is_fallen x s past)) refl
        by_event (Deliver slot dir) is = by-news x s (takes-as (Deliver slot dir) is) (reads-as (Deliver slot dir) is) (writes-as (Deliver slot dir) is ∙ deliver-writes payload x s slot dir e.reply past)
        by_event (Complete slot dir) is = by-news x s (takes-as (Complete slot dir) is) (reads-as (Complete slot dir) is) (writes-as (Complete slot dir) is ∙ complete-writes payload x s slot dir e.reply past)
        by_event event is = absurd (subst (Fits setup (length payload)) is made.built)

  -- a stream after an entry, by what leaves it and what comes in
  abbrev pub flowed : Bool → ℕ → ℕ → List ClcMessage → List ℕ → List ℕ → List ℕ
  flowed takes front reads posted wrote held = drop ((if takes then front else 0) + reads) held ++ (flat_map clc_bytes posted ++ wrote)

  pub flowed-is : (x : Side) (s : ℕ) (e : Entry) (past : List Entry) (takes : Bool) (reads : ℕ) (posted : List ClcMessage) (wrote held : List ℕ)
      → takes_clc x s e.event e.reply ≡ takes → read_out x s e.event e.reply past ≡ reads → filter_map (clc_in x s) e.posts ≡ posted → written payload x s e.event e.reply past ≡ wrote → stream payload x s past ≡ held
      → stream payload x s (e ∷ past) ≡ flowed takes (front_length (front payload x s past)) reads posted wrote held
  flowed-is x s e past takes reads posted wrote held t r m w h =
      ap (λ b. flowed b (front_length (front payload x s past)) (read_out x s e.event e.reply past) (filter_map (clc_in x s) e.posts) (written payload x s e.event e.reply past) (stream payload x s past)) t
      ∙ (ap (λ k. flowed takes (front_length (front payload x s past)) k (filter_map (clc_in x s) e.posts) (written payload x s e.event e.reply past) (stream payload x s past)) r
      ∙ (ap (λ ms. flowed takes (front_length (front payload x s past)) reads ms (written payload x s e.event e.reply past) (stream payload x s past)) m
      ∙ (ap (λ bs. flowed takes (front_length (front payload x s past)) reads posted bs (stream payload x s past)) w
      ∙ ap (λ bs. flowed takes (front_length (front payload x s past)) reads posted wrote bs) h)))

  -- the messages that wait after an entry
  abbrev pub waits-then : Bool → List ClcMessage → List ClcMessage → List ClcMessage
  waits-then takes posted waiting = drop (if takes then 1 else 0) waiting ++ posted

  pub waits-is : (x : Side) (s : ℕ) (e : Entry) (past : List Entry) (takes : Bool) (posted waiting : List ClcMessage) → takes_clc x s e.event e.reply ≡ takes → filter_map (clc_in x s) e.posts ≡ posted → untaken x s past ≡ waiting
      → untaken x s (e ∷ past) ≡ waits-then takes posted waiting
  waits-is x s e past takes posted waiting t m u =
      ap (λ b. waits-then b (filter_map (clc_in x s) e.posts) (untaken x s past)) t
      ∙ (ap (λ ms. waits-then takes ms (untaken x s past)) m ∙ ap (λ ms. waits-then takes posted ms) u)

  -- what a stream holds after a history
  pub record IsFront (x : Side) (s : ℕ) (past : List Entry) : Type 0 where
    pub more : List ℕ
    pub parts : stream payload x s past ≡ flat_map clc_bytes (untaken x s past) ++ more
    pub early : is_fallen x s past ≡ false → more ≡ []
    pub fits : length (stream payload x s past) ≤ stream_room

  -- the message at the front
  pub front-whole : (past : List Entry) (n : ℕ) → IsPlayed setup payload past n → (x : Side) (s : ℕ) (m : ClcMessage) → untaken x s past ≡ m ∷ [] → front payload x s past ≡ Whole m (clc_length m)
  front-whole past n q x s m u =
      ap (λ b. front_of b (stream payload x s past) (untaken x s past)) (never-raw past n q s) ∙ ap (λ ms. front_of false (stream payload x s past) ms) u

  pub zero-plus : (k : ℕ) → 0 + k ≡ k
  zero-plus k = omega arith

  fits-alone : (m : ClcMessage) → IsMeasured m → length ((clc_bytes m ++ []) ++ []) ≤ stream_room
  fits-alone m i = let l = i.length_is in let most = i.most in
      subst (λ (bs : List ℕ). length bs ≤ stream_room) (sym (append-nil (clc_bytes m ++ []) ∙ append-nil (clc_bytes m))) (omega (arith, l, most))

  pub taken-rest : (m : ClcMessage) (more : List ℕ) → IsMeasured m → drop (clc_length m + 0) ((clc_bytes m ++ []) ++ more) ≡ more
  taken-rest m more i =
      let long : clc_length m + 0 ≡ length (clc_bytes m ++ []) = plus-none (clc_length m) ∙ (sym i.length_is ∙ ap (λ bs. length bs) (sym (append-nil (clc_bytes m)))) in
      ap (λ k. drop k ((clc_bytes m ++ []) ++ more)) long ∙ drop-append_seam (clc_bytes m ++ []) more

  pub fronts : (past : List Entry) (n : ℕ) → IsPlayed setup payload past n → (x : Side) (s : ℕ) → IsFront x s past
  fronts [] n q x s = record { more = []; parts = refl; early = λ f. refl; fits = omega arith }
  fronts (e ∷ past) n p x s = by (moving e past n p x s) (fronts past p.0 p.3 x s)
    where
      by : Moving e past n p x s → IsFront x s past → IsFront x s (e ∷ past)
      by (Grows bytes t r m w early room) f =
          let g : stream payload x s (e ∷ past) ≡ stream payload x s past ++ bytes = flowed-is x s e past false 0 [] bytes (stream payload x s past) t r m w refl in
          let u : untaken x s (e ∷ past) ≡ untaken x s past = waits-is x s e past false [] (untaken x s past) t m refl ∙ append-nil (untaken x s past) in
          let long = length-append (stream payload x s past) bytes in
          let held = f.fits in
          record {
            more = f.more ++ bytes;
            parts = g ∙ (ap (λ bs. bs ++ bytes) f.parts ∙ (append_assoc (flat_map clc_bytes (untaken x s past)) f.more bytes ∙ ap (λ ms. flat_map clc_bytes ms ++ (f.more ++ bytes)) (sym u)));
            early = λ h. let before = unfallen-before e past n p x s h in ap (λ bs. bs ++ bytes) (f.early before) ∙ early before;
            fits = subst (λ (bs : List ℕ). length bs ≤ stream_room) (sym g) (omega (arith, long, held, room));
          }
      by (Posts link m t r posted w a) f =
          let empty : stream payload x s past ≡ [] = f.parts ∙ (ap (λ ms. flat_map clc_bytes ms ++ f.more) a.taken ∙ f.early a.unfallen) in
          let g : stream payload x s (e ∷ past) ≡ (clc_bytes m ++ []) ++ [] = flowed-is x s e past false 0 (m ∷ []) [] [] t r posted w empty in
          let u : untaken x s (e ∷ past) ≡ m ∷ [] = waits-is x s e past false (m ∷ []) [] t posted a.taken in
          record {
            more = [];
            parts = g ∙ ap (λ ms. flat_map clc_bytes ms ++ []) (sym u);
            early = λ h. refl;
            fits = subst (λ (bs : List ℕ). length bs ≤ stream_room) (sym g) (fits-alone m (measured-new setup payload x past link m a.new));
          }
      by (Takes m t r posted w there) f =
          let i = first-measured setup one payload past p.0 p.3 x s m (ap (λ ms. head ms) there) in
          let held : stream payload x s past ≡ (clc_bytes m ++ []) ++ f.more = f.parts ∙ ap (λ ms. flat_map clc_bytes ms ++ f.more) there in
          let g : stream payload x s (e ∷ past) ≡ f.more =
          flowed-is x s e past true 0 [] [] ((clc_bytes m ++ []) ++ f.more) t r posted w held
          ∙ (ap (λ fr. flowed true (front_length fr) 0 [] [] ((clc_bytes m ++ []) ++ f.more)) (front-whole past p.0 p.3 x s m there)
          ∙ (append-nil (drop (clc_length m + 0) ((clc_bytes m ++ []) ++ f.more)) ∙ taken-rest m f.more i)) in
          let u : untaken x s (e ∷ past) ≡ [] = waits-is x s e past true [] (m ∷ []) t posted there in
          let long = ap (λ bs. length bs) held ∙ length-append (clc_bytes m ++ []) f.more in
          let fit = f.fits in
          record {
            more = f.more;
            parts = g ∙ ap (λ ms. flat_map clc_bytes ms ++ f.more) (sym u);
            early = λ h. f.early (unfallen-before e past n p x s h);
            fits = subst (λ (bs : List ℕ). length bs ≤ stream_room) (sym g) (omega (arith, long, fit));
          }
      by (Reads-out k t r posted w fallen) f =
          let none : untaken x s past ≡ [] = ap (λ y. untaken y s past) (sym (other-other x)) ∙ fallen-heard-all past p.0 p.3 (other x) s fallen in
          let g : stream payload x s (e ∷ past) ≡ drop k (stream payload x s past) = flowed-is x s e past false k [] [] (stream payload x s past) t r posted w refl ∙ (ap (λ j. drop j (stream payload x s past) ++ []) (zero-plus k) ∙ append-nil (drop k (stream payload x s past))) in
          let u : untaken x s (e ∷ past) ≡ [] = waits-is x s e past false [] [] t posted none in
          let long = length-drop k (stream payload x s past) in
          let fit = f.fits in
          record {
            more = drop k (stream payload x s past);
            parts = g ∙ ap (λ ms. flat_map clc_bytes ms ++ drop k (stream payload x s past)) (sym u);
            early = λ h.
                let empty : stream payload x s past ≡ [] = f.parts ∙ (ap (λ ms. flat_map clc_bytes ms ++ f.more) none ∙ f.early (unfallen-before e past n p x s h)) in
                ap (λ bs. drop k bs) empty ∙ drop_all k [] (omega arith);
            fits = subst (λ (bs : List ℕ). length bs ≤ stream_room) (sym g) (omega (arith, long, fit));
          }

  -- what others use of it
  pub front-is-untaken : (past : List Entry) (n : ℕ) → IsPlayed setup payload past n → (x : Side) (s : ℕ) → is_fallen x s past ≡ false → stream payload x s past ≡ flat_map clc_bytes (untaken x s past)
  front-is-untaken past n q x s f = let r = fronts past n q x s in r.parts ∙ (ap (λ bs. flat_map clc_bytes (untaken x s past) ++ bs) (r.early f) ∙ append-nil (flat_map clc_bytes (untaken x s past)))

  pub stream-parts : (past : List Entry) (n : ℕ) → IsPlayed setup payload past n → (x : Side) (s : ℕ) → (more : List ℕ) × (stream payload x s past ≡ flat_map clc_bytes (untaken x s past) ++ more)
  stream-parts past n q x s = let r = fronts past n q x s in (r.more, r.parts)

  pub stream-fits : (past : List Entry) (n : ℕ) → IsPlayed setup payload past n → (x : Side) (s : ℕ) → length (stream payload x s past) ≤ stream_room
  stream-fits past n q x s = let r = fronts past n q x s in r.fits

-- an end that has not fallen back writes into no stream and reads out of none, and a message that is not taken stays
pub unfallen-writes : (payload : List ℕ) (s : ℕ) (end : End) (at len : ℕ) (reply : Reply) (past : List Entry) → is_fallen end.side end.s past ≡ false → written payload end.side s (Write end at len) reply past ≡ []
unfallen-writes payload s end at len reply past f = written-by payload end.side s end at len reply past ∙ ap (λ b. if b then put-of reply (drop at payload) else []) (by (s == end.s) refl)
  where
    and-else : (b : Bool) → (b && false) ≡ false
    and-else true = refl
    and-else false = refl

    by : (b : Bool) → (s == end.s) ≡ b → (same_side end.side end.side && ((s == end.s) && is_fallen end.side s past)) ≡ false
    by false g = ap (λ b. same_side end.side end.side && (b && is_fallen end.side s past)) g ∙ and-else (same_side end.side end.side)
    by true g =
        ap (λ r. same_side end.side end.side && ((s == end.s) && is_fallen end.side r past)) (eqb-true s end.s g)
        ∙ (ap (λ b. same_side end.side end.side && ((s == end.s) && b)) f ∙ (ap (λ b. same_side end.side end.side && b) (and-else (s == end.s)) ∙ and-else (same_side end.side end.side)))

pub unfallen-reads : (x : Side) (s : ℕ) (end : End) (len : ℕ) (reply : Reply) (past : List Entry) → is_fallen end.side end.s past ≡ false → read_out x s (Read end len) reply past ≡ 0
unfallen-reads x s end len reply past f = read-by x s end len reply past ∙ ap (λ b. if b then taken-of reply else 0) (by (same_side (other x) end.side) (s == end.s) refl refl)
  where
    by : (a b : Bool) → same_side (other x) end.side ≡ a → (s == end.s) ≡ b → (same_side (other x) end.side && ((s == end.s) && is_fallen (other x) s past)) ≡ false
    by false b h g = ap (λ a. a && ((s == end.s) && is_fallen (other x) s past)) h
    by true false h g = ap (λ a. a && ((s == end.s) && is_fallen (other x) s past)) h ∙ ap (λ b. b && is_fallen (other x) s past) g
    by true true h g =
        ap (λ a. a && ((s == end.s) && is_fallen (other x) s past)) h
        ∙ (ap (λ b. b && is_fallen (other x) s past) g
        ∙ (ap (λ y. is_fallen y s past) (same-is (other x) end.side h) ∙ (ap (λ r. is_fallen end.side r past) (eqb-true s end.s g) ∙ f)))

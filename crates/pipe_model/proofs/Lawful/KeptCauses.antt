-- A cause that an end keeps stays: in each private pipe, and of an end that has fallen back or was reset before it was up.
use Rattle.std.proofs.Common.{◌≡◌, ◌∙◌, ◌==◌, ◌&&◌, ◌||◌, ◌++◌, ℕ, ◌+◌, min, Bool, true, false, if◌then◌else◌, List, [], ◌∷◌, length, take, drop, refl, ap, sym, subst, true≢false}
use Rattle.std.proofs.lemmas.Bool.{eqb-true}
use Rattle.std.specs.Prelude.{Option, Some, None, is_some}
use Rattle.smc_num.specs.declared.Side.{Side}
use Rattle.smc_num.specs.declared.Side.TheVariants.{A, B}
use Rattle.smc_num.specs.declared.LinkId.{LinkId}
use Rattle.smc_num.specs.declared.LinkPhase.{LinkPhase}
use Rattle.smc_num.specs.declared.LinkPhase.TheVariants.{Unused, Pending, Live, Dead}
use Rattle.smc_num.specs.Names.{other, same_side, head}
use Rattle.smc_num.specs.Numbers.{wire_number}
use Rattle.pipe_model.specs.declared.reply.ResetCause.{ResetCause}
use Rattle.pipe_model.specs.declared.reply.ResetCause.TheVariants.{PeerAbort, Gap}
use Rattle.pipe_model.specs.declared.reply.Reply.{Reply}
use Rattle.pipe_model.specs.declared.reply.Reply.TheVariants.{Done, Reset}
use Rattle.pipe_model.specs.declared.event.End.{End as EndName}
use Rattle.pipe_model.specs.declared.event.Event.{Event}
use Rattle.pipe_model.specs.declared.event.Event.TheVariants.{Finish, Close, Abort}
use Rattle.pipe_model.specs.declared.setup.Setup.{Setup}
use Rattle.pipe_model.specs.declared.entry.Entry.{Entry}
use Rattle.pipe_model.specs.declared.snapshot.Snapshot.{Snapshot}
use Rattle.pipe_model.specs.Snapshot.{shows_gap}
use Rattle.pipe_model.specs.Closing.{Phase, Open, Finished, Closing, ClosePosted, CloseDone, Resetting, AbortPosted, AbortDone, GroupGone, cause_of, after_finish, after_close, after_abort, struck, ended_with, after_posting, after_completing, after_moving}
use Rattle.pipe_model.specs.Ends.{Half, Sent, settle, is_due, is_over, is_due_for_move, meets_fate, takes, takes_snapshot, validates, strikes, completes, counts_completed, check, lowest_link, present, posts_batch, window, unread, to_land, to_complete}
use Rattle.pipe_model.specs.Calls.{Call, Writes, Reads, Finishes, Closes, Aborts, Awaits, Moves, Told, Plain, calls, is_ended}
use Rattle.pipe_model.specs.Pipe.{Pipe, Terms, Item, Fate, GroupEnd, Up, Calls, Lands, Completes, half, pipe, apply, step}
use Rattle.pipe_model.specs.Connections.{EndState, IsUp, HasFallen, WasReset, end_state, group_on, items, part}
use Rattle.pipe_model.specs.Lending.{terms_of, pipe_of}
use Rattle.pipe_model.specs.Fallback.{Queues, queues, is_fallen, is_fallen_state, fallen_call, own_phase, peer_did, fallen_phase}
use Rattle.pipe_model.specs.Replies.{told, end_told, fallen_told}
use Rattle.pipe_model.specs.Lawful.{reply_of}
use Rattle.pipe_model.specs.Causes.{is_settled, StaySettled, kept_in, kept_cause}
use Rattle.pipe_model.proofs.Pipes.{and-parts}

none-some : {X : Type 0} (x : X) → None ≡ Some x → ⊥
none-some x e = let f : false ≡ true = ap (λ o. is_some o) e in cc

-- that a phase has this cause
abbrev Has : ResetCause → Phase → Type 0
Has c p = cause_of p ≡ Some c

finish-has : (c : ResetCause) (p : Phase) → Has c p → Has c (after_finish p)
finish-has c Open e = absurd (none-some c e)
finish-has c p e = e

close-has : (c : ResetCause) (p : Phase) → Has c p → Has c (after_close p)
close-has c Open e = absurd (none-some c e)
close-has c Finished e = absurd (none-some c e)
close-has c p e = e

abort-has : (c : ResetCause) (p : Phase) → Has c p → Has c (after_abort p)
abort-has c Open e = absurd (none-some c e)
abort-has c Finished e = absurd (none-some c e)
abort-has c p e = e

struck-has : (c d : ResetCause) (p : Phase) → Has c p → Has c (struck d p)
struck-has c d Open e = absurd (none-some c e)
struck-has c d Finished e = absurd (none-some c e)
struck-has c d Closing e = absurd (none-some c e)
struck-has c d p e = e

ended-has : (c : ResetCause) (g : ℕ) (p : Phase) → Has c p → Has c (ended_with g p)
ended-has c g Open e = absurd (none-some c e)
ended-has c g Finished e = absurd (none-some c e)
ended-has c g Closing e = absurd (none-some c e)
ended-has c g p e = e

posting-has : (c : ResetCause) (s : Snapshot) (p : Phase) → Has c p → Has c (after_posting s p)
posting-has c s Closing e = absurd (none-some c e)
posting-has c s (Resetting d) e = e
posting-has c s p e = e

completing-has : (c : ResetCause) (s : Snapshot) (p : Phase) → Has c p → Has c (after_completing s p)
completing-has c s ClosePosted e = absurd (none-some c e)
completing-has c s (AbortPosted d) e = by s.aborted
  where
    by : (b : Bool) → Has c (if b then AbortDone d else AbortPosted d)
    by true = e
    by false = e
completing-has c s p e = e

moving-has : (c : ResetCause) (p : Phase) → Has c p → Has c (after_moving p)
moving-has c ClosePosted e = absurd (none-some c e)
moving-has c (AbortPosted d) e = e
moving-has c p e = e

-- the end of a pipe
module _ (c : ResetCause) where
  abbrev Keeps : Half → Type 0
  Keeps h = Has c h.phase

  either : (h1 h2 : Half) (b : Bool) → Keeps h1 → Keeps h2 → Keeps (if b then h1 else h2)
  either h1 h2 true x y = x
  either h1 h2 false x y = y

  settled : (depth : ℕ) (h : Half) → Keeps h → Keeps (settle depth h)
  settled depth h k = either (posts_batch h) h (is_due depth h) (posting-has c (present h) h.phase k) k

  call-keeps : (size : ℕ) (call : Call) (h : Half) → Keeps h → Keeps (calls size call h)
  call-keeps size (Writes bytes) h k = either h (record h { out = h.out ++ take (window size h) bytes }) (is_some (cause_of h.phase) || is_ended h) k k
  call-keeps size (Reads n) h k = either h (record h { rd = h.rd + min n (unread h) }) _ k k
  call-keeps size Finishes h k = either h (record h { finished = true; phase = after_finish h.phase }) _ k (finish-has c h.phase k)
  call-keeps size Closes h k = either h (record h { finished = true; phase = after_close h.phase }) _ k (close-has c h.phase k)
  call-keeps size Aborts h k = abort-has c h.phase k
  call-keeps size Awaits h k = k
  call-keeps size Moves h k =
      either (record h { link = lowest_link h; last = h.fin; flight = []; phase = after_moving h.phase; sent = h.sent ++ check h ∷ []; landed = length h.sent; completed = length h.sent }) h (is_due_for_move h) (moving-has c h.phase k) k

  fate-keeps : (link : LinkId) (phase : LinkPhase) (h : Half) → Keeps h → Keeps (meets_fate link phase h)
  fate-keeps link Unused h k = k
  fate-keeps link Pending h k = k
  fate-keeps link Live h k = k
  fate-keeps link Dead h k = k

  takes-keeps : (o : Option Sent) (h : Half) → Keeps h → Keeps (takes o h)
  takes-keeps None h k = k
  takes-keeps (Some m) h k = either h (if m.check then validates m.snapshot.number h else takes_snapshot m.snapshot h) (is_over h) k
      (either (validates m.snapshot.number h) (takes_snapshot m.snapshot h) m.check
      (either (strikes (Gap (wire_number m.snapshot.number) (wire_number h.taken.number)) h) h (shows_gap m.snapshot.number h.taken.number) (struck-has c _ h.phase k) k)
      (either (strikes PeerAbort (record h { taken = m.snapshot })) (record h { taken = m.snapshot }) m.snapshot.aborted (struck-has c PeerAbort h.phase k) k))

  completes-keeps : (o : Option Sent) (h : Half) → Keeps h → Keeps (completes o h)
  completes-keeps None h k = k
  completes-keeps (Some m) h k = either (counts_completed h) (record (counts_completed h) { fin = m.snapshot; flight = drop 1 h.flight; phase = after_completing m.snapshot h.phase }) m.check k (completing-has c m.snapshot h.phase k)

  item-keeps : (size : ℕ) (x : Side) (item : Item) (p : Pipe) → Keeps (half x p) → Keeps (half x (apply size item p))
  item-keeps size A (Fate A link phase) p k = fate-keeps link phase p.a k
  item-keeps size A (GroupEnd A) p k = ended-has c p.a.link.group p.a.phase k
  item-keeps size A (Calls A call) p k = call-keeps size call p.a k
  item-keeps size A (Lands B) p k = takes-keeps (head (to_land p.b)) p.a k
  item-keeps size A (Completes A) p k = completes-keeps (head (to_complete p.a)) p.a k
  item-keeps size A (Fate B link phase) p k = k
  item-keeps size A (GroupEnd B) p k = k
  item-keeps size A (Up A link) p k = k
  item-keeps size A (Up B link) p k = k
  item-keeps size A (Calls B call) p k = k
  item-keeps size A (Lands A) p k = k
  item-keeps size A (Completes B) p k = k
  item-keeps size B (Fate B link phase) p k = fate-keeps link phase p.b k
  item-keeps size B (GroupEnd B) p k = ended-has c p.b.link.group p.b.phase k
  item-keeps size B (Calls B call) p k = call-keeps size call p.b k
  item-keeps size B (Lands A) p k = takes-keeps (head (to_land p.a)) p.b k
  item-keeps size B (Completes B) p k = completes-keeps (head (to_complete p.b)) p.b k
  item-keeps size B (Fate A link phase) p k = k
  item-keeps size B (GroupEnd A) p k = k
  item-keeps size B (Up A link) p k = k
  item-keeps size B (Up B link) p k = k
  item-keeps size B (Calls A call) p k = k
  item-keeps size B (Lands B) p k = k
  item-keeps size B (Completes A) p k = k

  settled-half : (t : Terms) (x : Side) (item : Item) (p : Pipe) → Keeps (half x (apply t.size item p)) → Keeps (half x (step t item p))
  settled-half t A item p k = settled t.depth (apply t.size item p).a k
  settled-half t B item p k = settled t.depth (apply t.size item p).b k

  pub pipe-keeps : (t : Terms) (x : Side) (item : Item) (is : List Item) → Keeps (half x (pipe t is)) → Keeps (half x (pipe t (item ∷ is)))
  pipe-keeps t x item is k = settled-half t x item (pipe t is) (item-keeps t.size x item (pipe t is) k)

  news-keep : (t : Terms) (x : Side) (news is : List Item) → Keeps (half x (pipe t is)) → Keeps (half x (pipe t (news ++ is)))
  news-keep t x [] is k = k
  news-keep t x (item ∷ news) is k = pipe-keeps t x item (news ++ is) (news-keep t x news is k)

-- the own calls of an end that has fallen back
call-either : (P : Phase → Type 0) (b : Bool) (p q : Phase) → P p → P q → P (if b then p else q)
call-either P true p q x y = x
call-either P false p q x y = y

own-keeps : (P : Phase → Type 0) → ((p : Phase) → P p → P (after_finish p)) → ((p : Phase) → P p → P (after_close p)) → ((p : Phase) → P p → P (after_abort p))
    → (x : Side) (s : ℕ) (event : Event) (reply : Reply) (p : Phase) → P p → P (fallen_call x s event reply p)
own-keeps P f g h x s (Finish end) Done p k = call-either P (same_side x end.side && (s == end.s)) (after_finish p) p (f p k) k
own-keeps P f g h x s (Close end) Done p k = call-either P (same_side x end.side && (s == end.s)) (after_close p) p (g p k) k
own-keeps P f g h x s (Abort end) Done p k = call-either P (same_side x end.side && (s == end.s)) (after_abort p) p (h p k) k
own-keeps P f g h x s event reply p k = k

-- an aborted end stays so
abbrev IsReset : Phase → Type 0
IsReset p = is_some (cause_of p) ≡ true

finish-reset : (p : Phase) → IsReset p → IsReset (after_finish p)
finish-reset Open e = absurd (true≢false (sym e))
finish-reset p e = e

close-reset : (p : Phase) → IsReset p → IsReset (after_close p)
close-reset Open e = absurd (true≢false (sym e))
close-reset Finished e = absurd (true≢false (sym e))
close-reset p e = e

abort-reset : (p : Phase) → IsReset p → IsReset (after_abort p)
abort-reset Open e = refl
abort-reset Finished e = refl
abort-reset p e = e

same-side : (x y : Side) → same_side x y ≡ true → y ≡ x
same-side A A e = refl
same-side A B e = absurd (true≢false (sym e))
same-side B A e = absurd (true≢false (sym e))
same-side B B e = refl

fallen-is : (state : EndState) → is_fallen_state state ≡ true → state ≡ HasFallen
fallen-is HasFallen e = refl
fallen-is state e = absurd (true≢false (sym e))

module _ (setup : Setup) (payload : List ℕ) (x : Side) (s : ℕ) (e : Entry) (past : List Entry) (n : ℕ) (c : ResetCause) (stay : StaySettled s e past) (reply_is : e.reply ≡ reply_of n (told setup payload past e.event)) where
  -- what is_settled stays
  stays : (y : Side) (state : EndState) → end_state y s past ≡ state → is_settled state ≡ true → end_state y s (e ∷ past) ≡ state
  stays y state f g = stay.ends y (ap is_settled f ∙ g) ∙ f

  still-fallen : (y : Side) → is_fallen y s past ≡ true → is_fallen y s (e ∷ past) ≡ true
  still-fallen y f = ap is_fallen_state (stays y HasFallen (fallen-is (end_state y s past) f) refl)

  -- what the peer did stays
  still-did : peer_did (λ p. is_some (cause_of p)) x s past ≡ true → peer_did (λ p. is_some (cause_of p)) x s (e ∷ past) ≡ true
  still-did f =
      let g = and-parts (is_fallen (other x) s past) (is_some (cause_of (own_phase (other x) s past))) f in
      let fallen = still-fallen (other x) g.0 in
      let reset : IsReset (own_phase (other x) s (e ∷ past)) = own-keeps IsReset finish-reset close-reset abort-reset (other x) s e.event e.reply (own_phase (other x) s past) g.1 in
      ap (λ b. b && is_some (cause_of (own_phase (other x) s (e ∷ past)))) fallen ∙ reset

  -- where it is reset, its own calls do nothing more
  abbrev Own : Phase
  Own = own_phase x s past

  reset-told : (end : EndName) (call : Call) → ((q : Queues) → fallen_told call q (Some c) ≡ Plain (Reset c)) → end_state x s past ≡ HasFallen → cause_of (fallen_phase x s past) ≡ Some c → same_side x end.side ≡ true → (s == end.s) ≡ true
      → end_told setup payload end call past (end_state end.side end.s past) ≡ Plain (Reset c)
  reset-told end call by_call fallen cause side_is s_is =
      let i : end.side ≡ x = same-side x end.side side_is in
      let j : s ≡ end.s = eqb-true s end.s s_is in
      let state : end_state end.side end.s past ≡ HasFallen = ap (λ y. end_state y end.s past) i ∙ (ap (λ r. end_state x r past) (sym j) ∙ fallen) in
      let phase : cause_of (fallen_phase end.side end.s past) ≡ Some c = ap (λ y. cause_of (fallen_phase y end.s past)) i ∙ (ap (λ r. cause_of (fallen_phase x r past)) (sym j) ∙ cause) in
      let q : Queues = queues payload end.side end.s past in
      ap (end_told setup payload end call past) state ∙ (ap (λ o. fallen_told call q o) phase ∙ by_call q)

  own-stays : (event : Event) (reply : Reply) → reply ≡ reply_of n (told setup payload past event) → end_state x s past ≡ HasFallen → cause_of (fallen_phase x s past) ≡ Some c → fallen_call x s event reply Own ≡ Own
  own-stays (Finish end) reply r fallen cause = by (same_side x end.side) (s == end.s) refl refl reply r
    where
      by : (a b : Bool) → same_side x end.side ≡ a → (s == end.s) ≡ b → (reply2 : Reply) → reply2 ≡ reply_of n (told setup payload past (Finish end)) → fallen_call x s (Finish end) reply2 Own ≡ Own
      by true true f g reply2 r2 = subst (λ q. fallen_call x s (Finish end) q Own ≡ Own) (sym (r2 ∙ ap (reply_of n) (reset-told end Finishes (λ q. refl) fallen cause f g))) refl
      by false b f g Done r2 = ap (λ k. if k && (s == end.s) then after_finish Own else Own) f
      by true false f g Done r2 = ap (λ k. if k && (s == end.s) then after_finish Own else Own) f ∙ ap (λ k. if k then after_finish Own else Own) g
      by a b f g reply2 r2 = refl
  own-stays (Close end) reply r fallen cause = by (same_side x end.side) (s == end.s) refl refl reply r
    where
      by : (a b : Bool) → same_side x end.side ≡ a → (s == end.s) ≡ b → (reply2 : Reply) → reply2 ≡ reply_of n (told setup payload past (Close end)) → fallen_call x s (Close end) reply2 Own ≡ Own
      by true true f g reply2 r2 = subst (λ q. fallen_call x s (Close end) q Own ≡ Own) (sym (r2 ∙ ap (reply_of n) (reset-told end Closes (λ q. refl) fallen cause f g))) refl
      by false b f g Done r2 = ap (λ k. if k && (s == end.s) then after_close Own else Own) f
      by true false f g Done r2 = ap (λ k. if k && (s == end.s) then after_close Own else Own) f ∙ ap (λ k. if k then after_close Own else Own) g
      by a b f g reply2 r2 = refl
  own-stays (Abort end) reply r fallen cause = by (same_side x end.side) (s == end.s) refl refl reply r
    where
      by : (a b : Bool) → same_side x end.side ≡ a → (s == end.s) ≡ b → (reply2 : Reply) → reply2 ≡ reply_of n (told setup payload past (Abort end)) → fallen_call x s (Abort end) reply2 Own ≡ Own
      by true true f g reply2 r2 = subst (λ q. fallen_call x s (Abort end) q Own ≡ Own) (sym (r2 ∙ ap (reply_of n) (reset-told end Aborts (λ q. refl) fallen cause f g))) refl
      by false b f g Done r2 = ap (λ k. if k && (s == end.s) then after_abort Own else Own) f
      by true false f g Done r2 = ap (λ k. if k && (s == end.s) then after_abort Own else Own) f ∙ ap (λ k. if k then after_abort Own else Own) g
      by a b f g reply2 r2 = refl
  own-stays event reply r fallen cause = refl

  -- an end that has fallen back
  abbrev Shows : Bool → Phase → Option ResetCause
  Shows b p = cause_of (if b then struck PeerAbort p else p)

  shown-own : (b : Bool) (p : Phase) (d : ResetCause) → Has d p → Shows b p ≡ Some d
  shown-own true p d k = struck-has d PeerAbort p k
  shown-own false p d k = k

  fallen-keeps : end_state x s past ≡ HasFallen → cause_of (fallen_phase x s past) ≡ Some c → cause_of (fallen_phase x s (e ∷ past)) ≡ Some c
  fallen-keeps fallen cause = by (cause_of Own) refl
    where
      Did : List Entry → Bool
      Did h = peer_did (λ p. is_some (cause_of p)) x s h

      struck-by : (b : Bool) → Did past ≡ b → cause_of Own ≡ None → cause_of (fallen_phase x s (e ∷ past)) ≡ Some c
      struck-by true f g =
          let phase : fallen_call x s e.event e.reply Own ≡ Own = own-stays e.event e.reply reply_is fallen cause in
          ap (λ b. Shows b (own_phase x s (e ∷ past))) (still-did f) ∙ (ap (λ p. Shows true p) phase ∙ (ap (λ b. Shows b Own) (sym f) ∙ cause))
      struck-by false f g = absurd (none-some c (sym g ∙ (ap (λ b. Shows b Own) (sym f) ∙ cause)))

      by : (o : Option ResetCause) → cause_of Own ≡ o → cause_of (fallen_phase x s (e ∷ past)) ≡ Some c
      by None f = struck-by (Did past) refl f
      by (Some d) f =
          let same : Some d ≡ Some c = sym (shown-own (Did past) Own d f) ∙ cause in
          shown-own (Did (e ∷ past)) (own_phase x s (e ∷ past)) d (own-keeps (Has d) (finish-has d) (close-has d) (abort-has d) x s e.event e.reply Own f) ∙ same

  up-keeps : end_state x s past ≡ IsUp → cause_of (half x (pipe_of setup payload (group_on s past) s past)).phase ≡ Some c → cause_of (half x (pipe_of setup payload (group_on s (e ∷ past)) s (e ∷ past))).phase ≡ Some c
  up-keeps up cause =
      let g : ℕ = group_on s past in
      subst (λ h. cause_of (half x (pipe_of setup payload h s (e ∷ past))).phase ≡ Some c) (sym (stay.group x up)) (news-keep c (terms_of setup) x (items payload g s e past) (part payload g s past) cause)

  by-state : (state : EndState) → end_state x s past ≡ state → kept_in setup payload x s past state ≡ Some c → kept_in setup payload x s (e ∷ past) (end_state x s (e ∷ past)) ≡ Some c
  by-state IsUp f k = ap (kept_in setup payload x s (e ∷ past)) (stays x IsUp f refl) ∙ up-keeps f k
  by-state HasFallen f k = ap (kept_in setup payload x s (e ∷ past)) (stays x HasFallen f refl) ∙ fallen-keeps f k
  by-state (WasReset d) f k = ap (kept_in setup payload x s (e ∷ past)) (stays x (WasReset d) f refl) ∙ k
  by-state state f k = absurd (none-some c k)

  pub cause-stays : kept_cause setup payload x s past ≡ Some c → kept_cause setup payload x s (e ∷ past) ≡ Some c
  cause-stays k = by-state (end_state x s past) refl k

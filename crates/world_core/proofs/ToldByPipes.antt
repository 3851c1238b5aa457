-- What the calls of a connection were told over a whole played history is what its private pipe tells, and so the same in any two worlds.
use Rattle.std.proofs.Common.{true≢false, ◌≡◌, ◌∙◌, ◌⊎◌, inl, inr, ◌==◌, ◌&&◌, ℕ, Bool, true, false, if◌then◌else◌, List, [], ◌∷◌, ◌++◌, length, take, drop, map, filter, refl, ap, sym, subst, eqb-true, append-nil, append_assoc, ◌||◌, min, nat_lt}
use Rattle.std.specs.Prelude.{Option, Some, None}
use Rattle.std.proofs.Math.Seq.{take-append_seam, drop-append_seam}
use Rattle.smc_num.specs.declared.Side.{Side}
use Rattle.smc_num.specs.declared.Side.TheVariants.{A, B}
use Rattle.smc_num.specs.Names.{other}
use Rattle.pipe_model.specs.declared.setup.Setup.{Setup}
use Rattle.pipe_model.specs.declared.event.Event.{Event}
use Rattle.pipe_model.specs.declared.event.End.{End}
use Rattle.pipe_model.specs.declared.event.Event.TheVariants.{Open, Write, Read, Clc, Deliver, Complete}
use Rattle.pipe_model.specs.declared.reply.ResetCause.{ResetCause}
use Rattle.pipe_model.specs.declared.reply.Reply.{Reply}
use Rattle.pipe_model.specs.declared.reply.Reply.TheVariants.{Bytes, Wrote, Full, Empty, End as EndReply, Ended}
use Rattle.pipe_model.specs.declared.post.Post.{Post}
use Rattle.pipe_model.specs.declared.entry.Entry.{Entry}
use Rattle.pipe_model.specs.History.{Offered, offered}
use Rattle.pipe_model.specs.Words.{is_nil}
use Rattle.pipe_model.specs.Closing.{is_closing, cause_of}
use Rattle.pipe_model.specs.Ends.{Half, window, unread}
use Rattle.pipe_model.specs.Calls.{Call, Writes, Reads, Told, Plain, Hands, is_ended, half_told, write_told, read_told}
use Rattle.pipe_model.specs.Pipe.{Terms, Item, Fate, GroupEnd, Up, Calls, Lands, Completes, half, pipe, told as pipe_told, is_near_part}
use Rattle.pipe_model.specs.Connections.{IsUp, is_up, early_state, end_state, call_on, deeds, items, part, group_on, landed_at, completed_at}
use Rattle.pipe_model.specs.Lending.{terms_of, pipe_of, leaves_handshake}
use Rattle.pipe_model.specs.Replies.{told, call_told, end_told}
use Rattle.pipe_model.specs.Lawful.{asked, reply_of, answers, answers_on, as_claimed, is_call_of, read_as, read_near, was_told}
use Rattle.pipe_model.proofs.Lawful.{claimed-whole}
use Rattle.world_core.specs.Played.{IsOneLink, IsPlayed}
use Rattle.world_core.specs.Heard.{all_bytes, told_bytes}
use Rattle.world_core.specs.Wired.{EachItem, is_transfer}
use Rattle.world_core.specs.Agreement.{HasOffers}
use Rattle.world_core.proofs.Moves.{IsQuiet}
use Rattle.world_core.proofs.Ways.{own-items}
use Rattle.world_core.proofs.EntryItems.{each-append, each-more, items-are, below, below-calm, is_fate_or_up}
use Rattle.world_core.proofs.Parts.{not-before, up-offered}
use Rattle.world_core.proofs.Own.{grouped}
use Rattle.world_core.proofs.PlayedWorlds.{played}
use Rattle.world_core.proofs.Handshaken.{has-offers, shaken}
use Rattle.world_core.proofs.QuietEvents.{by-side, entry-of, quiet-write, quiet-read}
use Rattle.world_core.proofs.QuietEntries.{bare, items-now}
use Rattle.world_core.proofs.KnownEntries.{calm-of}
use Rattle.world_core.proofs.LawfulPasts.{all-heard, heard-long}
use Rattle.world_core.proofs.Pipes.{has-pipe}

-- an answer that names no place among the bytes handed out
abbrev names_none : Told → Bool
names_none (Plain (Bytes from len)) = false
names_none _ = true

-- read again at its place it is what was told
plain-again : (heard : List ℕ) (reply : Reply) → names_none (Plain reply) ≡ true → read_as heard reply ≡ Plain reply
plain-again heard (Bytes from len) e = absurd (true≢false (sym e))
plain-again heard _ e = refl

bytes-again : (heard all bytes later : List ℕ) (before : ℕ) → before ≡ length all → heard ≡ (all ++ bytes) ++ later → take (length bytes) (drop before heard) ≡ bytes
bytes-again heard all bytes later before n e =
    ap (λ k. take (length bytes) (drop k heard)) n ∙ (ap (λ (hs : List ℕ). take (length bytes) (drop (length all) hs)) (e ∙ append_assoc all bytes later)
    ∙ (ap (λ (hs : List ℕ). take (length bytes) hs) (drop-append_seam all (bytes ++ later)) ∙ take-append_seam bytes later))

told-again : (heard all later : List ℕ) (before : ℕ) (t : Told) → names_none t ≡ true → before ≡ length all → heard ≡ (all ++ told_bytes t) ++ later → read_as heard (reply_of before t) ≡ t
told-again heard all later before (Plain reply) none n e = plain-again heard reply none
told-again heard all later before (Hands bytes) none n e = ap (λ (bs : List ℕ). Hands bs) (bytes-again heard all bytes later before n e)

-- no call on an end names a place itself
either-reply : (b : Bool) (r q : Reply) → names_none (Plain r) ≡ true → names_none (Plain q) ≡ true → names_none (Plain (if b then r else q)) ≡ true
either-reply true r q e f = e
either-reply false r q e f = f

either-told : (b : Bool) (t u : Told) → names_none t ≡ true → names_none u ≡ true → names_none (if b then t else u) ≡ true
either-told true t u e f = e
either-told false t u e f = f

write-names-none : (size : ℕ) (bytes : List ℕ) (h : Half) → names_none (Plain (write_told size bytes h)) ≡ true
write-names-none size bytes h =
    either-reply (is_ended h) Ended _ refl (either-reply (is_nil bytes) (Wrote 0) _ refl (either-reply (window size h == 0) Full (Wrote (min (length bytes) (window size h))) refl refl))

read-names-none : (n : ℕ) (h : Half) (out : List ℕ) → names_none (read_told n h out) ≡ true
read-names-none n h out =
    either-told (is_closing h.phase) (Plain Ended) _ refl (either-told (n == 0) (Hands []) _ refl
    (either-told (nat_lt 0 (unread h)) (Hands (take (min n (unread h)) (drop h.rd out))) _ refl (either-told (h.taken.done || h.taken.closed) (Plain EndReply) (Plain Empty) refl refl)))

half-names-none : (size : ℕ) (call : Call) (h : Half) (out : List ℕ) (cause : Option ResetCause) → is_transfer call ≡ true → names_none (half_told size call h out cause) ≡ true
half-names-none size (Writes bytes) h out None t = write-names-none size bytes h
half-names-none size (Writes bytes) h out (Some cause) t = refl
half-names-none size (Reads n) h out None t = read-names-none n h out
half-names-none size (Reads n) h out (Some cause) t = refl
half-names-none size _ h out cause t = absurd (true≢false (sym t))

-- items without a call add nothing
abbrev is_no_call : Item → Bool
is_no_call (Calls x call) = false
is_no_call _ = true

none-answered : (t : Terms) (is older : List Item) → EachItem is_no_call is → answers t (is ++ older) ≡ answers t older
none-answered t [] older p = refl
none-answered t (Fate x link phase ∷ is) older p = none-answered t is older p.1
none-answered t (GroupEnd x ∷ is) older p = none-answered t is older p.1
none-answered t (Up x link ∷ is) older p = none-answered t is older p.1
none-answered t (Calls x call ∷ is) older p = absurd (true≢false (sym p.0))
none-answered t (Lands x ∷ is) older p = none-answered t is older p.1
none-answered t (Completes x ∷ is) older p = none-answered t is older p.1

none-called : (is : List Item) → EachItem is_no_call is → filter is_call_of is ≡ []
none-called [] p = refl
none-called (Fate x link phase ∷ is) p = none-called is p.1
none-called (GroupEnd x ∷ is) p = none-called is p.1
none-called (Up x link ∷ is) p = none-called is p.1
none-called (Calls x call ∷ is) p = absurd (true≢false (sym p.0))
none-called (Lands x ∷ is) p = none-called is p.1
none-called (Completes x ∷ is) p = none-called is p.1

fate-or-up-no-call : (item : Item) → is_fate_or_up item ≡ true → is_no_call item ≡ true
fate-or-up-no-call (Fate x link phase) e = refl
fate-or-up-no-call (Up x link) e = refl
fate-or-up-no-call (GroupEnd x) e = refl
fate-or-up-no-call (Calls x call) e = absurd (true≢false (sym e))
fate-or-up-no-call (Lands x) e = refl
fate-or-up-no-call (Completes x) e = refl

module _ (setup : Setup) (payload : List ℕ) (g s : ℕ) (heard : List ℕ) where
  with-items : (e : Entry) (past : List Entry) (is : List Item) → items payload g s e past ≡ is
      → map (λ i. read_near setup payload g s heard e past) (filter is_call_of is) ++ was_told setup payload g s heard past ≡ answers (terms_of setup) (is ++ part payload g s past)
      → was_told setup payload g s heard (e ∷ past) ≡ answers (terms_of setup) (part payload g s (e ∷ past))
  with-items e past is f q =
      ap (λ (js : List Item). map (λ i. read_near setup payload g s heard e past) (filter is_call_of js) ++ was_told setup payload g s heard past) f
      ∙ (q ∙ ap (λ (js : List Item). answers (terms_of setup) (js ++ part payload g s past)) (sym f))

  -- an entry that calls none of its ends
  calm-step : (e : Entry) (past : List Entry) → EachItem is_no_call (items payload g s e past) → was_told setup payload g s heard past ≡ answers (terms_of setup) (part payload g s past)
      → was_told setup payload g s heard (e ∷ past) ≡ answers (terms_of setup) (part payload g s (e ∷ past))
  calm-step e past none before =
      ap (λ (js : List Item). map (λ i. read_near setup payload g s heard e past) js ++ was_told setup payload g s heard past) (none-called (items payload g s e past) none)
      ∙ (before ∙ sym (none-answered (terms_of setup) (items payload g s e past) (part payload g s past) none))

  -- an entry that calls one, where it is up
  call-step : (e : Entry) (past : List Entry) (end : End) (call : Call) → items payload g s e past ≡ call_on end call s past
      → (s ≡ end.s → is_up end.side s past ≡ true → read_near setup payload g s heard e past ≡ pipe_told (terms_of setup) end.side call (pipe (terms_of setup) (part payload g s past)))
      → was_told setup payload g s heard past ≡ answers (terms_of setup) (part payload g s past)
      → was_told setup payload g s heard (e ∷ past) ≡ answers (terms_of setup) (part payload g s (e ∷ past))
  call-step e past end call is answer before = by (s == end.s) (is_up end.side s past) refl refl
    where
      given : (a b : Bool) → (s == end.s) ≡ a → is_up end.side s past ≡ b → items payload g s e past ≡ (if a && b then Calls end.side call ∷ [] else [])
      given a b f u = is ∙ (ap (λ c. if c && is_up end.side s past then Calls end.side call ∷ [] else []) f ∙ ap (λ c. if a && c then Calls end.side call ∷ [] else []) u)

      by : (a b : Bool) → (s == end.s) ≡ a → is_up end.side s past ≡ b → was_told setup payload g s heard (e ∷ past) ≡ answers (terms_of setup) (part payload g s (e ∷ past))
      by true true f u = with-items e past (Calls end.side call ∷ []) (given true true f u)
          (ap (λ (t : Told). t ∷ was_told setup payload g s heard past) (answer (eqb-true s end.s f) u)
          ∙ ap (λ (ts : List Told). pipe_told (terms_of setup) end.side call (pipe (terms_of setup) (part payload g s past)) ∷ ts) before)
      by true false f u = with-items e past [] (given true false f u) before
      by false b f u = with-items e past [] (given false b f u) before

module _ (setup : Setup) (one : IsOneLink setup) (payload : List ℕ) where
  no-calls : (g s : ℕ) (e : Entry) (past : List Entry) (n : ℕ) → IsPlayed setup payload (e ∷ past) n → EachItem is_no_call (deeds payload s e.event e.reply past) → EachItem is_no_call (items payload g s e past)
  no-calls g s e past n p d =
      let h = shaken setup one payload (e ∷ past) n p in
      let q = h.1 in
      let r = q.1 in
      subst (λ is. EachItem is_no_call is) (sym (items-are payload g s e past))
      (each-append is_no_call (deeds payload s e.event e.reply past) (below g s e past) d (each-more is_fate_or_up is_no_call fate-or-up-no-call (below g s e past) (below-calm g s e past r.0)))

  only-call : (e : Entry) (past : List Entry) (n : ℕ) → IsPlayed setup payload (e ∷ past) n → IsQuiet (bare e) past → asked setup payload past e.event e.reply ≡ []
      → ((x : Side) (s : ℕ) → leaves_handshake x s e.event e.reply ≡ false) → (g s : ℕ) → items payload g s e past ≡ deeds payload s e.event e.reply past
  only-call e past n p quiet none stays g s =
      let w = played setup one payload past p.0 p.3 in
      items-now setup payload w.stage e past (calm-of setup payload w.stage e past n p (shaken setup one payload (e ∷ past) n p) w.world quiet none stays) g s

  none-offered : (x : Side) (s : ℕ) (past : List Entry) → HasOffers setup past → offered B s past ≡ None → offered (other x) s past ≡ None
  none-offered A s past h f = f
  none-offered B s past h f = h.answer s f

  not-up : (x : Side) (s : ℕ) (past : List Entry) (n : ℕ) → IsPlayed setup payload past n → offered B s past ≡ None → is_up x s past ≡ false
  not-up x s past n p f = up-offered setup payload x s past (shaken setup one payload past n p) (none-offered x s past (has-offers setup one payload past n p) f)

  group-up : (x : Side) (g s : ℕ) (past : List Entry) (n : ℕ) → IsPlayed setup payload past n → is_up x s past ≡ true → (g ≡ 1) ⊎ (offered B s past ≡ None) → group_on s past ≡ g
  group-up x g s past n p up (inr none) = absurd (true≢false (sym up ∙ not-up x s past n p none))
  group-up x g s past n p up (inl is) = by (offered B s past) refl
    where
      by : (o : Option Offered) → offered B s past ≡ o → group_on s past ≡ g
      by None f = absurd (true≢false (sym up ∙ not-up x s past n p f))
      by (Some o) f = grouped setup past (has-offers setup one payload past n p) B s o f ∙ sym is

  near-in : (x : Side) (g s : ℕ) (past : List Entry) (n : ℕ) → IsPlayed setup payload past n → is_up x s past ≡ true → (g ≡ 1) ⊎ (offered B s past ≡ None) → is_near_part (terms_of setup) (part payload g s past) ≡ true
  near-in x g s past n p up h =
      let pipes = has-pipe setup payload s past n p (shaken setup one payload past n p) in
      ap (λ k. is_near_part (terms_of setup) (part payload k s past)) (sym (group-up x g s past n p up h)) ∙ pipes.near

  -- a call on an end that is up is told what its pipe tells
  call-told : (end : End) (call : Call) (g s : ℕ) (past : List Entry) (n : ℕ) → IsPlayed setup payload past n → (g ≡ 1) ⊎ (offered B s past ≡ None) → s ≡ end.s → is_up end.side s past ≡ true
      → call_told setup payload end call past ≡ pipe_told (terms_of setup) end.side call (pipe (terms_of setup) (part payload g s past))
  call-told end call g s past n p h at up =
      let here : is_up end.side end.s past ≡ true = subst (λ k. is_up end.side k past ≡ true) at up in
      let state : end_state end.side end.s past ≡ IsUp = ap (λ b. if b then IsUp else early_state end.side end.s past) here in
      ap (λ state. end_told setup payload end call past state) state
      ∙ (ap (λ k. pipe_told (terms_of setup) end.side call (pipe_of setup payload (group_on k past) k past)) (sym at)
      ∙ ap (λ k. pipe_told (terms_of setup) end.side call (pipe_of setup payload k s past)) (group-up end.side g s past n p up h))

  -- and so its reply, read with the bytes handed out, says
  answered : (e : Entry) (past : List Entry) (n : ℕ) (p : IsPlayed setup payload (e ∷ past) n) (end : End) (call : Call) → told setup payload past e.event ≡ call_told setup payload end call past → is_transfer call ≡ true
      → (g s : ℕ) → (g ≡ 1) ⊎ (offered B s past ≡ None) → (heard later : List ℕ) → heard ≡ all_bytes setup payload (e ∷ past) ++ later → s ≡ end.s → is_up end.side s past ≡ true
      → read_near setup payload g s heard e past ≡ pipe_told (terms_of setup) end.side call (pipe (terms_of setup) (part payload g s past))
  answered e past n p end call event transfer g s h heard later f at up =
      let made = p.1 in
      let q = pipe (terms_of setup) (part payload g s past) in
      let is = event ∙ call-told end call g s past p.0 p.3 h at up in
      let none : names_none (told setup payload past e.event) ≡ true =
      ap (λ t. names_none t) is ∙ half-names-none (terms_of setup).size call (half end.side q) (half (other end.side) q).out (cause_of (half end.side q).phase) transfer in
      let long : p.0 ≡ length (all_bytes setup payload past) = sym (heard-long setup payload past p.0 p.3 (all_bytes setup payload past) (all-heard setup payload past)) in
      ap (λ b. as_claimed b (read_as heard e.reply)) (near-in end.side g s past p.0 p.3 up h) ∙ claimed-whole (read_as heard e.reply)
      ∙ (ap (λ r. read_as heard r) made.reply ∙ (told-again heard (all_bytes setup payload past) later p.0 (told setup payload past e.event) none long f ∙ is))

  by-event : (g s actor : ℕ) (posts : List Post) (past : List Entry) (n : ℕ) (heard later : List ℕ) (event : Event) (reply : Reply) → IsPlayed setup payload (entry-of actor event reply posts ∷ past) n
      → (g ≡ 1) ⊎ (offered B s past ≡ None) → heard ≡ all_bytes setup payload (entry-of actor event reply posts ∷ past) ++ later
      → was_told setup payload g s heard past ≡ answers (terms_of setup) (part payload g s past)
      → was_told setup payload g s heard (entry-of actor event reply posts ∷ past) ≡ answers (terms_of setup) (part payload g s (entry-of actor event reply posts ∷ past))
  by-event g s actor posts past n heard later (Write end at len) reply p h f before =
      let e : Entry = entry-of actor (Write end at len) reply posts in
      let is = only-call e past n p (quiet-write actor past end at len reply) refl (by-side (λ x. (s : ℕ) → leaves_handshake x s (Write end at len) reply ≡ false) (λ s. refl) (λ s. refl)) g s in
      call-step setup payload g s heard e past end (Writes (take len (drop at payload))) is (answered e past n p end (Writes (take len (drop at payload))) refl refl g s h heard later f) before
  by-event g s actor posts past n heard later (Read end len) reply p h f before =
      let e : Entry = entry-of actor (Read end len) reply posts in
      let is = only-call e past n p (quiet-read actor past end len reply) refl (by-side (λ x. (s : ℕ) → leaves_handshake x s (Read end len) reply ≡ false) (λ s. refl) (λ s. refl)) g s in
      call-step setup payload g s heard e past end (Reads len) is (answered e past n p end (Reads len) refl refl g s h heard later f) before
  by-event g s actor posts past n heard later (Open t) reply p h f before =
      calm-step setup payload g s heard (entry-of actor (Open t) reply posts) past (no-calls g s (entry-of actor (Open t) reply posts) past n p tt) before
  by-event g s actor posts past n heard later (Clc t dir) reply p h f before =
      calm-step setup payload g s heard (entry-of actor (Clc t dir) reply posts) past (no-calls g s (entry-of actor (Clc t dir) reply posts) past n p tt) before
  by-event g s actor posts past n heard later (Deliver slot dir) reply p h f before =
      calm-step setup payload g s heard (entry-of actor (Deliver slot dir) reply posts) past
      (no-calls g s (entry-of actor (Deliver slot dir) reply posts) past n p (own-items is_no_call (Lands dir) dir s (landed_at slot dir reply past) past refl)) before
  by-event g s actor posts past n heard later (Complete slot dir) reply p h f before =
      calm-step setup payload g s heard (entry-of actor (Complete slot dir) reply posts) past
      (no-calls g s (entry-of actor (Complete slot dir) reply posts) past n p (own-items is_no_call (Completes dir) dir s (completed_at reply) past refl)) before
  by-event g s actor posts past n heard later _ reply p h f before = let made = p.1 in absurd made.built

  earlier : (g s : ℕ) (e : Entry) (past : List Entry) (n : ℕ) → IsPlayed setup payload (e ∷ past) n → (g ≡ 1) ⊎ (offered B s (e ∷ past) ≡ None) → (g ≡ 1) ⊎ (offered B s past ≡ None)
  earlier g s e past n p (inl is) = inl is
  earlier g s e past n p (inr none) = let h = shaken setup one payload (e ∷ past) n p in let q = h.1 in let r = q.1 in inr (not-before setup payload B s e past r.0 none)

  told-so-far : (g s : ℕ) (past : List Entry) (n : ℕ) → IsPlayed setup payload past n → (g ≡ 1) ⊎ (offered B s past ≡ None) → (heard later : List ℕ) → heard ≡ all_bytes setup payload past ++ later
      → was_told setup payload g s heard past ≡ answers (terms_of setup) (part payload g s past)
  told-so-far g s [] n p h heard later f = refl
  told-so-far g s (e ∷ past) n p h heard later f =
      let now = told_bytes (told setup payload past e.event) in
      let was = earlier g s e past n p h in
      by-event g s e.actor e.posts past n heard later e.event e.reply p was f
      (told-so-far g s past p.0 p.3 was heard (now ++ later) (f ∙ append_assoc (all_bytes setup payload past) now later))

  in-group : (s : ℕ) (past : List Entry) (n : ℕ) → IsPlayed setup payload past n → (o : Option Offered) → offered B s past ≡ o → (group_on s past ≡ 1) ⊎ (offered B s past ≡ None)
  in-group s past n p None f = inr f
  in-group s past n p (Some o) f = inl (grouped setup past (has-offers setup one payload past n p) B s o f)

  -- what the calls of a connection were told is what its pipe tells
  pub told-by-pipes : (past : List Entry) (n : ℕ) → IsPlayed setup payload past n → (heard : List ℕ) → heard ≡ all_bytes setup payload past → (s : ℕ)
      → was_told setup payload (group_on s past) s heard past ≡ answers_on setup payload s past
  told-by-pipes past n p heard f s =
      told-so-far (group_on s past) s past n p (in-group s past n p (offered B s past) refl) heard [] (f ∙ sym (append-nil (all_bytes setup payload past)))

-- and so the same in any two worlds, where terms and parts are equal
pub told-alike : (t u : Setup) → IsOneLink t → IsOneLink u → (p q : List ℕ) (past past2 : List Entry) (n m : ℕ) → IsPlayed t p past n → IsPlayed u q past2 m → (s r : ℕ) → terms_of t ≡ terms_of u
    → part p (group_on s past) s past ≡ part q (group_on r past2) r past2
    → was_told t p (group_on s past) s (all_bytes t p past) past ≡ was_told u q (group_on r past2) r (all_bytes u q past2) past2
told-alike t u one two p q past past2 n m f g s r same_terms same_parts =
    told-by-pipes t one p past n f (all_bytes t p past) refl s
    ∙ (ap (λ (is : List Item). answers (terms_of t) is) same_parts ∙ (ap (λ terms. answers terms (part q (group_on r past2) r past2)) same_terms
    ∙ sym (told-by-pipes u two q past2 m g (all_bytes u q past2) refl r)))

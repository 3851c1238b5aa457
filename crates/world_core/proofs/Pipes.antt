-- The pipe of each connection in a played history: its part can be, is near, and neither of its ends closes.
use Rattle.std.proofs.Common.{◌≡◌, ◌∙◌, ◌==◌, ℕ, Bool, true, false, if◌then◌else◌, List, [], ◌∷◌, ◌++◌, length, take, drop, refl, ap, sym, subst, ◌&&◌}
use Rattle.std.specs.Prelude.{Option, Some, None}
use Rattle.smc_num.specs.declared.Side.{Side}
use Rattle.smc_num.specs.declared.Side.TheVariants.{A, B}
use Rattle.smc_num.specs.Names.{other}
use Rattle.pipe_model.specs.declared.setup.Setup.{Setup}
use Rattle.pipe_model.specs.declared.event.Event.{Event}
use Rattle.pipe_model.specs.declared.event.End.{End}
use Rattle.pipe_model.specs.declared.event.Event.TheVariants.{Open, Write, Read, Clc, Deliver, Complete}
use Rattle.pipe_model.specs.declared.reply.Reply.{Reply}
use Rattle.pipe_model.specs.declared.entry.Entry.{Entry}
use Rattle.pipe_model.specs.History.{Offered, offered}
use Rattle.pipe_model.specs.Calls.{Call, Writes, Reads}
use Rattle.pipe_model.specs.Pipe.{Calls, Lands, Completes, half}
use Rattle.pipe_model.specs.Connections.{is_up, call_on, deeds, part, group_on, landed_at, completed_at}
use Rattle.pipe_model.specs.Lending.{terms_of, pipe_of}
use Rattle.pipe_model.proofs.Pipes.{unswallowed-near}
use Rattle.pipe_model.specs.Fits.{Fits}
use Rattle.world_core.specs.Played.{IsPlayed}
use Rattle.world_core.specs.OneLink.{the_link}
use Rattle.world_core.specs.Agreement.{HasOffers, IsShaken, CanBe, HasPipe}
use Rattle.world_core.proofs.OpenEnds.{half-open, never-over}
use Rattle.world_core.proofs.Idle.{idle, on-link}
use Rattle.world_core.proofs.EntryItems.{each-more, items-are, below, below-calm, is_fate_or_up}
use Rattle.world_core.proofs.Parts.{part-open, part-on, up-offered, not-before}
use Rattle.world_core.proofs.UpEnds.{pipe-is-up}
use Rattle.world_core.proofs.Feasible.{is_no_message, can-more}
use Rattle.world_core.proofs.Own.{own-none, grouped}
use Rattle.world_core.proofs.Agreed.{fate-or-up-no-message}
use Rattle.world_core.proofs.Agreement.{agrees}

pub offers-of : (setup : Setup) (past : List Entry) → IsShaken setup past → HasOffers setup past
offers-of setup [] h = h
offers-of setup (e ∷ past) h = h.0

-- an unoffered connection has no deeds
no-call : (end : End) (call : Call) (s : ℕ) (past : List Entry) → ((x : Side) → is_up x s past ≡ false) → call_on end call s past ≡ []
no-call end call s past f = by (s == end.s) refl
  where
    by : (b : Bool) → (s == end.s) ≡ b → (if b && is_up end.side s past then Calls end.side call ∷ [] else []) ≡ []
    by true e = ap (λ c. if c then Calls end.side call ∷ [] else []) (f end.side)
    by false e = refl

no-deeds : (setup : Setup) (payload : List ℕ) (s : ℕ) (event : Event) (reply : Reply) (past : List Entry) → Fits setup (length payload) event → ((x : Side) → is_up x s past ≡ false) → ((x : Side) → offered x s past ≡ None) → deeds payload s event reply past ≡ []
no-deeds setup payload s (Open t) reply past b f o = refl
no-deeds setup payload s (Clc t dir) reply past b f o = refl
no-deeds setup payload s (Write end at len) reply past b f o = no-call end (Writes (take len (drop at payload))) s past f
no-deeds setup payload s (Read end len) reply past b f o = no-call end (Reads len) s past f
no-deeds setup payload s (Deliver slot dir) reply past b f o = own-none (Lands dir) dir s (landed_at slot dir reply past) past (o (other dir))
no-deeds setup payload s (Complete slot dir) reply past b f o = own-none (Completes dir) dir s (completed_at reply) past (o (other dir))
no-deeds setup payload s _ reply past b f o = absurd b

none-offered : (setup : Setup) (past : List Entry) → HasOffers setup past → (s : ℕ) → offered B s past ≡ None → (x : Side) → offered x s past ≡ None
none-offered setup past h s f A = h.answer s f
none-offered setup past h s f B = f

module _ (setup : Setup) (payload : List ℕ) where
  -- the part of an unoffered connection
  pub can-unoffered : (group s : ℕ) (past : List Entry) (n : ℕ) → IsPlayed setup payload past n → IsShaken setup past → offered B s past ≡ None → CanBe (terms_of setup) (part payload group s past)
  can-unoffered group s [] n p h f = record { feasible = tt; whole = refl }
  can-unoffered group s (e ∷ past) n p h f =
      let m = p.1 in
      let q = h.1 in
      let r = q.1 in
      let g = r.0 in
      let before = not-before setup payload B s e past g f in
      let none = none-offered setup past (offers-of setup past r.1) s before in
      let d = no-deeds setup payload s e.event e.reply past m.built (λ x. up-offered setup payload x s past r.1 (none (other x))) none in
      subst (λ is. CanBe (terms_of setup) (is ++ part payload group s past)) (sym (items-are payload group s e past ∙ ap (λ is. is ++ below group s e past) d))
      (can-more (terms_of setup) (below group s e past) (part payload group s past) (each-more is_fate_or_up is_no_message fate-or-up-no-message (below group s e past) (below-calm group s e past g))
      (can-unoffered group s past p.0 p.3 r.1 before))

  can-by : (s : ℕ) (past : List Entry) (n : ℕ) → IsPlayed setup payload past n → IsShaken setup past → (o : Option Offered) → offered B s past ≡ o → CanBe (terms_of setup) (part payload (group_on s past) s past)
  can-by s past n p h None f = can-unoffered (group_on s past) s past n p h f
  can-by s past n p h (Some o) f =
      let a = agrees setup payload past n p h in
      subst (λ g. CanBe (terms_of setup) (part payload g s past)) (sym (grouped setup past (offers-of setup past h) B s o f)) (a.part_can_be s)

  -- the pipe of each connection
  pub has-pipe : (s : ℕ) (past : List Entry) (n : ℕ) → IsPlayed setup payload past n → IsShaken setup past → HasPipe setup payload s past
  has-pipe s past n p h =
      let g : ℕ = group_on s past in
      let c : CanBe (terms_of setup) (part payload g s past) = can-by s past n p h (offered B s past) refl in
      let k = part-open setup payload g s past n p h in
      let u : ((x : Side) → (half x (pipe_of setup payload g s past)).up ≡ is_up x s past) = λ x. pipe-is-up (terms_of setup) x payload g s past in
      record {
        can_be = c;
        near = unswallowed-near (terms_of setup) (part payload g s past) c.feasible c.whole;
        open_end = λ x. half-open (terms_of setup) x (part payload g s past) k;
        not_over = λ x. never-over (terms_of setup) x (part payload g s past) k;
        up = u;
        idle = λ x f. idle (terms_of setup) x (part payload g s past) k (u x ∙ f);
        on_link = λ x. on-link the_link (terms_of setup) x (part payload g s past) k (part-on setup payload g s past n p h);
      }

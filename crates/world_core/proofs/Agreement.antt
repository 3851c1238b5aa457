-- Wires and pipes agree in every played history.
use Rattle.std.proofs.Common.{◌≡◌, ◌∙◌, ◌==◌, ℕ, ◌-◌, Bool, true, false, List, [], ◌∷◌, take, drop, map, refl, ap, sym, subst, ◌||◌, true≢false, eqb-true, suc, zero}
use Rattle.std.specs.Prelude.{Option, Some, None, is_some}
use Rattle.smc_num.specs.declared.Side.{Side}
use Rattle.smc_num.specs.Names.{other, head}
use Rattle.pipe_model.specs.declared.setup.Setup.{Setup}
use Rattle.pipe_model.specs.declared.entry.Entry.{Entry}
use Rattle.pipe_model.specs.declared.sent.Sent.{Sent}
use Rattle.pipe_model.specs.Words.{element_size}
use Rattle.pipe_model.specs.History.{Offered, offered}
use Rattle.pipe_model.specs.Ends.{Half, to_land, to_complete}
use Rattle.pipe_model.specs.Pipe.{half}
use Rattle.pipe_model.specs.Connections.{is_up, part}
use Rattle.pipe_model.specs.Lending.{terms_of, pipe_of}
use Rattle.world_core.specs.Played.{IsMade, IsPlayed}
use Rattle.world_core.specs.OneLink.{the_link}
use Rattle.world_core.specs.Wired.{message, returning, IsCarried}
use Rattle.world_core.specs.Agreement.{IsOnlyLink, HasOffers, GoesOn, IsShaken, IsElse, Agree}
use Rattle.world_core.proofs.Idle.{idle}
use Rattle.world_core.proofs.Parts.{part-open, up-offered, comes-not-up}
use Rattle.world_core.proofs.UpEnds.{pipe-is-up}
use Rattle.world_core.proofs.Agreed.{strange-step, carried-step, can-step}
use Rattle.world_core.proofs.Plain.{some-is, none-some}

-- an end that has sent nothing has nothing under way
pub nothing-left : (n : ℕ) (ms : List Sent) → ms ≡ [] → drop n ms ≡ []
nothing-left zero ms e = ap (λ ns. drop 0 ns) e
nothing-left (suc n) ms e = ap (λ ns. drop (suc n) ns) e

pub none-first : (m : Sent) (ms : List Sent) (i : ℕ) → head (drop i ms) ≡ Some m → ms ≡ [] → ⊥
none-first m ms i e f = none-some m (sym (ap (λ ns. head ns) (nothing-left i ms f)) ∙ e)

pub nothing-taken : (n : ℕ) (ms : List Sent) → ms ≡ [] → take n ms ≡ []
nothing-taken zero ms e = ap (λ ns. take 0 ns) e
nothing-taken (suc n) ms e = ap (λ ns. take (suc n) ns) e

pub lands-nothing : (h : Half) → h.sent ≡ [] → to_land h ≡ []
lands-nothing h e = nothing-left h.landed h.sent e

pub returns-nothing : (h : Half) → h.sent ≡ [] → returning h ≡ []
returns-nothing h e = nothing-taken (h.landed - h.completed) (to_complete h) (nothing-left h.completed h.sent e)

-- a token that no offer gave after an entry was given by none before it
pub else-before : (y : Side) (t : ℕ) (e : Entry) (past : List Entry) → GoesOn e past → (token : ℕ) → IsElse token (offered y t (e ∷ past)) → IsElse token (offered y t past)
else-before y t e past g token f = by (offered y t past) refl
  where
    by : (q : Option Offered) → offered y t past ≡ q → IsElse token q
    by None h = tt
    by (Some r) h = subst (λ q. IsElse token q) (g.kept y t r h) f

-- the token of a new offer was given by none
pub new-token : (setup : Setup) (y : Side) (s : ℕ) (o : Offered) (e : Entry) (past : List Entry) → HasOffers setup (e ∷ past) → GoesOn e past → offered y s (e ∷ past) ≡ Some o → offered y s past ≡ None → (t : ℕ) → IsElse o.offer.token (offered y t past)
new-token setup y s o e past h g f n t = by (offered y t past) refl
  where
    by : (q : Option Offered) → offered y t past ≡ q → IsElse o.offer.token q
    by None i = tt
    by (Some r) i = test (o.offer.token == r.offer.token) refl
      where
        test : (b : Bool) → (o.offer.token == r.offer.token) ≡ b → b ≡ false
        test false j = refl
        test true j =
            let same : s ≡ t = h.tokens y s t o r f (g.kept y t r i) (eqb-true o.offer.token r.offer.token j) in
            absurd (true≢false (sym (ap (λ q. is_some q) (sym n ∙ ap (λ k. offered y k past) same ∙ i))))

module _ (setup : Setup) (payload : List ℕ) where
  module _ (e : Entry) (past : List Entry) (before n m : ℕ) (made : IsMade setup payload past before e) (played : IsPlayed setup payload past n) (plays : IsPlayed setup payload (e ∷ past) m) (offers : HasOffers setup past) (only : IsOnlyLink past)
      (go : GoesOn e past) (shaken : IsShaken setup past) (shakes : IsShaken setup (e ∷ past)) (agree : Agree setup payload past) where
    -- an end that was offered just now has sent nothing
    pub new-end : (x : Side) (s : ℕ) → offered (other x) s past ≡ None → (half x (pipe_of setup payload 1 s (e ∷ past))).sent ≡ []
    new-end x s f = idle (terms_of setup) x (part payload 1 s (e ∷ past)) (part-open setup payload 1 s (e ∷ past) m plays shakes)
        (pipe-is-up (terms_of setup) x payload 1 s (e ∷ past) ∙ ap (λ b. b || is_up x s past) (comes-not-up setup payload x s e past go f) ∙ up-offered setup payload x s past shaken f)

    new-carried : (x : Side) (s : ℕ) (o : Offered) → offered (other x) s (e ∷ past) ≡ Some o → offered (other x) s past ≡ None → IsCarried (element_size setup) the_link x o.offer.token (e ∷ past) (half x (pipe_of setup payload 1 s (e ∷ past)))
    new-carried x s o f none =
        let c = strange-step setup payload e past before n made played offers only go shaken x (agree.strange x) o.offer.token (new-token setup (other x) s o e past shakes.0 go f none) in
        let sent = new-end x s none in
        record {
          landing = c.0 ∙ sym (ap (λ ms. map (message (element_size setup) o.offer.token) ms) (lands-nothing (half x (pipe_of setup payload 1 s (e ∷ past))) sent));
          completing = c.1 ∙ sym (ap (λ ms. map (message (element_size setup) o.offer.token) ms) (returns-nothing (half x (pipe_of setup payload 1 s (e ∷ past))) sent));
        }

    carried-on : (x : Side) (s : ℕ) (o : Offered) → offered (other x) s (e ∷ past) ≡ Some o → (q : Option Offered) → offered (other x) s past ≡ q → IsCarried (element_size setup) the_link x o.offer.token (e ∷ past) (half x (pipe_of setup payload 1 s (e ∷ past)))
    carried-on x s o f None h = new-carried x s o f h
    carried-on x s o f (Some r) h =
        subst (λ (p : Offered). IsCarried (element_size setup) the_link x p.offer.token (e ∷ past) (half x (pipe_of setup payload 1 s (e ∷ past)))) (some-is r o (sym (go.kept (other x) s r h) ∙ f))
        (carried-step setup payload e past before n made played offers only go shaken agree x s r h)

    agree-step : Agree setup payload (e ∷ past)
    agree-step = record {
      part_can_be = λ s. can-step setup payload e past before n made played offers only go shaken agree s;
      carried = λ x s o f. carried-on x s o f (offered (other x) s past) refl;
      strange = λ x. record {
        landing = λ token f. let c = strange-step setup payload e past before n made played offers only go shaken x (agree.strange x) token (λ s. else-before (other x) s e past go token (f s)) in c.0;
        completing = λ token f. let c = strange-step setup payload e past before n made played offers only go shaken x (agree.strange x) token (λ s. else-before (other x) s e past go token (f s)) in c.1;
      };
    }

  at-first : (h : HasOffers setup []) → Agree setup payload []
  at-first h = record {
    part_can_be = λ s. record { feasible = tt; whole = refl };
    carried = λ x s o f. absurd (true≢false (sym (ap (λ q. is_some q) f)));
    strange = λ x. record { landing = λ token f. refl; completing = λ token f. refl };
  }

  -- wires and pipes agree
  pub agrees : (past : List Entry) (n : ℕ) → IsPlayed setup payload past n → IsShaken setup past → Agree setup payload past
  agrees [] n p h = at-first h
  agrees (e ∷ past) n p h =
      let q = h.1 in
      let r = q.1 in
      agree-step e past p.0 p.0 n p.1 p.3 p (offers-of past r.1) q.0 r.0 r.1 h (agrees past p.0 p.3 r.1)
    where
      offers-of : (past : List Entry) → IsShaken setup past → HasOffers setup past
      offers-of [] h = h
      offers-of (f ∷ older) h = h.0

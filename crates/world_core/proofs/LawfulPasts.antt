-- A played history is lawful, whatever bytes it handed out as its answers ask.
use Rattle.std.proofs.Common.{◌≡◌, ◌∙◌, ℕ, ◌+◌, Bool, true, false, if◌then◌else◌, List, [], ◌∷◌, ◌++◌, length, refl, ap, sym, subst, arith, length-append}
use Rattle.smc_num.specs.declared.Side.{Side}
use Rattle.smc_num.specs.declared.Side.TheVariants.{A, B}
use Rattle.pipe_model.specs.declared.setup.Setup.{Setup}
use Rattle.pipe_model.specs.declared.entry.Entry.{Entry}
use Rattle.pipe_model.specs.Home.{LandsHome}
use Rattle.pipe_model.specs.Keys.{AreBound}
use Rattle.pipe_model.specs.Lending.{RelendsOnlyDone}
use Rattle.pipe_model.specs.Calls.{Told, Plain, Hands}
use Rattle.pipe_model.specs.Replies.{told}
use Rattle.pipe_model.specs.Lawful.{reply_of, posted, claims_bytes, is_near_on, Given, IsStep, IsLawfulPast}
use Rattle.world_core.specs.Played.{IsOneLink, IsPlayed, handed}
use Rattle.world_core.specs.Heard.{AddsBytes, IsHeard, all_bytes, told_bytes}
use Rattle.pipe_model.specs.declared.event.Event.{Event}
use Rattle.pipe_model.specs.declared.event.Event.TheVariants.{Read}
use Rattle.pipe_model.specs.Connections.{is_up}
use Rattle.pipe_model.specs.declared.reply.Lack.{Lack}
use Rattle.pipe_model.specs.declared.reply.Reply.TheVariants.{Declined}
use Rattle.pipe_model.specs.Causes.{IsLacking, DeclinesForLack}
use Rattle.pipe_model.proofs.Lawful.{told-named}
use Rattle.world_core.proofs.Handshaken.{shaken}
use Rattle.world_core.proofs.Pipes.{has-pipe}
use Rattle.wire_laws.proofs.FreedKeys.{bound-holds}
use Rattle.wire_laws.proofs.Whole.{lent-holds}
use Rattle.wire_laws.proofs.Writes.{lands-home}
use Rattle.world_core.proofs.Made.{has-elements, made-all, on-known}
use Rattle.world_core.proofs.NoResets.{causes-shown}

-- as many bytes were handed out as the history counts
given-long : (claimed : Bool) (t : Told) (given : List ℕ) → Given claimed t given → length given ≡ handed t
given-long claimed (Plain reply) given g = ap (λ (bs : List ℕ). length bs) g
given-long claimed (Hands bytes) given g = g.as_long

pub heard-long : (setup : Setup) (payload : List ℕ) (past : List Entry) (n : ℕ) → IsPlayed setup payload past n → (heard : List ℕ) → IsHeard setup payload past heard → length heard ≡ n
heard-long setup payload [] n p heard h = ap (λ (bs : List ℕ). length bs) h ∙ sym p
heard-long setup payload (e ∷ older) n p heard h =
    let a = h.1 in
    let before : length h.0 ≡ p.0 = heard-long setup payload older p.0 p.3 h.0 h.2 in
    let given : length a.given ≡ handed (told setup payload older e.event) = given-long (claims_bytes setup payload older e.event) (told setup payload older e.event) a.given a.given_is in
    let all : length heard ≡ length h.0 + length a.given = ap (λ (bs : List ℕ). length bs) a.heard_is ∙ length-append h.0 a.given in
    let count = p.2 in
    omega (arith, before, given, all, count)

-- what is declined is declined for a lack that holds
lacking-in : (setup : Setup) (payload : List ℕ) (e : Entry) (past : List Entry) (n : ℕ) → IsPlayed setup payload (e ∷ past) n → DeclinesForLack setup payload e.event e.reply past
lacking-in setup payload e past n p = let made = p.1 in subst (λ r. DeclinesForLack setup payload e.event r past) (sym made.reply) (told-named setup payload past e.event p.0)

pub declined-lacks : (setup : Setup) (payload : List ℕ) (e : Entry) (past : List Entry) (n : ℕ) → IsPlayed setup payload (e ∷ past) n → (lack : Lack) → e.reply ≡ Declined lack → IsLacking setup payload e.event past lack
declined-lacks setup payload e past n p lack f = subst (λ r. DeclinesForLack setup payload e.event r past) f (lacking-in setup payload e past n p)

module _ (setup : Setup) (one : IsOneLink setup) (payload : List ℕ) where
  -- each write that lands is home
  pub home : (e : Entry) (past : List Entry) (n : ℕ) → IsPlayed setup payload (e ∷ past) n → LandsHome setup payload e.event e.reply past
  home e past n p = lands-home setup payload e past (made-all setup payload (e ∷ past) n p) (on-known setup payload past p.0 p.3)

  -- no element is lent again too early
  pub relent : (e : Entry) (past : List Entry) (n : ℕ) → IsPlayed setup payload (e ∷ past) n → (x : Side) → RelendsOnlyDone x e past
  relent e past n p x = lent-holds setup payload e past x (has-elements setup one) (made-all setup payload (e ∷ past) n p) (on-known setup payload past p.0 p.3)

  -- no key is bound again too early
  pub bound : (e : Entry) (past : List Entry) (n : ℕ) → IsPlayed setup payload (e ∷ past) n → (x : Side) → AreBound x e past
  bound e past n p x = bound-holds setup payload x e past (made-all setup payload (e ∷ past) n p) (on-known setup payload past p.0 p.3)

  pub lawful-step : (e : Entry) (past : List Entry) (n : ℕ) (p : IsPlayed setup payload (e ∷ past) n) (before heard : List ℕ) → length before ≡ p.0 → AddsBytes setup payload past e.event before heard → IsStep setup payload past before e heard
  lawful-step e past n p before heard long a = let made = p.1 in record {
    reply = made.reply ∙ ap (λ k. reply_of k (told setup payload past e.event)) (sym long);
    posts = made.posts ∙ ap (λ k. posted setup payload past k e.event) (sym long);
    given = a.given;
    heard_is = a.heard_is;
    given_is = a.given_is;
    home = home e past n p;
    lent_a = relent e past n p A;
    lent_b = relent e past n p B;
    bound_a = bound e past n p A;
    bound_b = bound e past n p B;
    lacking = lacking-in setup payload e past n p;
    shown = causes-shown setup one payload (e ∷ past) n p;
  }

  -- it is lawful
  pub lawful-past : (past : List Entry) (n : ℕ) → IsPlayed setup payload past n → (heard : List ℕ) → IsHeard setup payload past heard → IsLawfulPast setup payload past heard
  lawful-past [] n p heard h = h
  lawful-past (e ∷ older) n p heard h = (
    h.0,
    lawful-step e older n p h.0 heard (heard-long setup payload older p.0 p.3 h.0 h.2) h.1,
    lawful-past older p.0 p.3 h.0 h.2,
  )

-- the bytes of the answers are such bytes
pub is-given : (claimed : Bool) (t : Told) → Given claimed t (told_bytes t)
is-given claimed (Plain reply) = refl
is-given claimed (Hands bytes) = record { as_long = refl; same = λ c. refl }

pub all-heard : (setup : Setup) (payload : List ℕ) (past : List Entry) → IsHeard setup payload past (all_bytes setup payload past)
all-heard setup payload [] = refl
all-heard setup payload (e ∷ older) =
    let t : Told = told setup payload older e.event in
    (all_bytes setup payload older, record { given = told_bytes t; heard_is = refl; given_is = is-given (claims_bytes setup payload older e.event) t }, all-heard setup payload older)

-- every connection is near, so all bytes that are read are claimed
if-near : (up near : Bool) → near ≡ true → (if up then near else true) ≡ true
if-near true near e = e
if-near false near e = refl

module _ (setup : Setup) (one : IsOneLink setup) (payload : List ℕ) where
  pub all-claimed : (past : List Entry) (n : ℕ) → IsPlayed setup payload past n → (event : Event) → claims_bytes setup payload past event ≡ true
  all-claimed past n p (Read end len) = let h = has-pipe setup payload end.s past n p (shaken setup one payload past n p) in if-near (is_up end.side end.s past) (is_near_on setup payload end.s past) h.near
  all-claimed past n p _ = refl

  given-is-told : (claimed : Bool) (t : Told) (given : List ℕ) → claimed ≡ true → Given claimed t given → given ≡ told_bytes t
  given-is-told claimed (Plain reply) given c g = g
  given-is-told claimed (Hands bytes) given c g = g.same c

  -- and no others
  pub only-heard : (past : List Entry) (n : ℕ) → IsPlayed setup payload past n → (heard : List ℕ) → IsHeard setup payload past heard → heard ≡ all_bytes setup payload past
  only-heard [] n p heard h = h
  only-heard (e ∷ older) n p heard h =
      let a = h.1 in
      let t : Told = told setup payload older e.event in
      let given = given-is-told (claims_bytes setup payload older e.event) t a.given (all-claimed older p.0 p.3 e.event) a.given_is in
      a.heard_is ∙ (ap (λ (bs : List ℕ). bs ++ a.given) (only-heard older p.0 p.3 h.0 h.2) ∙ ap (λ (bs : List ℕ). all_bytes setup payload older ++ bs) given)

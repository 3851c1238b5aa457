-- An end comes up on the one link, where its peer has offered; and the link becomes live at a side before any end there is up.
use Rattle.std.proofs.Common.{◌≡◌, ◌∙◌, ◌==◌, ◌⊎◌, inl, inr, ℕ, ◌≤◌, Bool, true, false, if◌then◌else◌, List, [], ◌∷◌, filter_map, refl, ap, sym, arith, ◌||◌, true≢false, eqb-true}
use Rattle.std.specs.Prelude.{Option, Some, None, is_some, option_map, option_and_then, unwrap_or}
use Rattle.std.specs.Option.{option_or}
use Rattle.smc_num.specs.declared.Side.{Side}
use Rattle.smc_num.specs.declared.Side.TheVariants.{A, B}
use Rattle.smc_num.specs.declared.LinkId.{LinkId}
use Rattle.smc_num.specs.declared.LinkPhase.TheVariants.{Pending, Live}
use Rattle.smc_num.specs.Links.{Known}
use Rattle.smc_num.specs.Names.{other, same_link}
use Rattle.pipe_model.specs.declared.flow.FlowStep.{FlowStep}
use Rattle.pipe_model.specs.declared.flow.FlowStep.TheVariants.{Live as LiveStep}
use Rattle.pipe_model.specs.declared.setup.Setup.{Setup}
use Rattle.pipe_model.specs.declared.event.Event.{Event}
use Rattle.pipe_model.specs.declared.event.Event.TheVariants.{Clc as ClcEvent}
use Rattle.pipe_model.specs.declared.reply.Reply.{Reply}
use Rattle.pipe_model.specs.declared.reply.Reply.TheVariants.{Established}
use Rattle.pipe_model.specs.declared.entry.Entry.{Entry}
use Rattle.pipe_model.specs.History.{Offered, offered}
use Rattle.pipe_model.specs.Fabric.{Act, Fabric, act_by, act_in, peer, table_of}
use Rattle.pipe_model.specs.Pipe.{Item, Fate}
use Rattle.pipe_model.specs.Connections.{named_link, is_first_on, confirmed_by, up_by, comes_up, is_up, fate_of, fates}
use Rattle.world_core.specs.Played.{IsMade}
use Rattle.world_core.specs.OneLink.{the_link, the_known, Stage, NoLink, Begun, Made, Asking, LiveAtA, LiveAtBoth, fabric_at}
use Rattle.world_core.specs.Sockets.{Socket, Unopened, Fallen, Proposed, Refused, FirstAccepted, FirstConfirmed, AwaitsLink, FirstUpAtA, FirstUp, Accepted, AcceptRefused, AcceptFallen, Confirmed, Up, IsWorld, up_at, first_step, is_unoffered, suits}
use Rattle.world_core.specs.Agreement.{IsCalm}
use Rattle.world_core.proofs.Shaken.{Choice, offered-none, old-or-new, up-answered}
use Rattle.world_core.proofs.Plain.{and-both, none-some, link-is}
use Rattle.world_core.proofs.LinkFacts.{is_live_at}

-- a message that establishes an end does so on the link that B named
up-by-some : (x : Side) (s : ℕ) (event : Event) (reply : Reply) (past : List Entry) (l : LinkId) → up_by x s event reply past ≡ Some l → named_link s past ≡ Some l
up-by-some A s (ClcEvent t B) Established past l e = by (s == t) e
  where
    by : (b : Bool) → (if b then named_link s past else None) ≡ Some l → named_link s past ≡ Some l
    by true f = f
    by false f = absurd (none-some l f)
up-by-some B s (ClcEvent t A) Established past l e = by (s == t) e
  where
    by : (b : Bool) → (if b then named_link s past else None) ≡ Some l → named_link s past ≡ Some l
    by true f = f
    by false f = absurd (none-some l f)
up-by-some x s event reply past l e = absurd (none-some l e)

confirmed-some : (o : Option Offered) (link : LinkId) (step : FlowStep) (l : LinkId) → confirmed_by o link step ≡ Some l → (is_first_on link o ≡ true) × (link ≡ l)
confirmed-some o link (LiveStep reply true) l e = by (is_first_on link o) refl e
  where
    by : (b : Bool) → is_first_on link o ≡ b → (if b then Some link else None) ≡ Some l → (is_first_on link o ≡ true) × (link ≡ l)
    by true f g = (f, ap (λ (q : Option LinkId). unwrap_or q link) g)
    by false f g = absurd (none-some l g)
confirmed-some o link step l e = absurd (none-some l e)

-- that B has offered on a socket, on this link
abbrev Named : ℕ → List Entry → LinkId → Type 0
Named s past l = (o : Offered) × ((offered B s past ≡ Some o) × (o.link ≡ l))

named-by : (s : ℕ) (past : List Entry) (l : LinkId) → named_link s past ≡ Some l → Named s past l
named-by s past l e = by (offered B s past) refl
  where
    by : (q : Option Offered) → offered B s past ≡ q → Named s past l
    by None f = absurd (none-some l (sym (ap (λ (r : Option Offered). option_map (λ o. o.link) r) f) ∙ e))
    by (Some o) f = (o, (f, ap (λ (r : Option LinkId). unwrap_or r o.link) (sym (ap (λ (r : Option Offered). option_map (λ p. p.link) r) f) ∙ e)))

first-by : (s : ℕ) (past : List Entry) (link l : LinkId) → is_first_on link (offered B s past) ≡ true → link ≡ l → Named s past l
first-by s past link l e g = by (offered B s past) refl
  where
    by : (q : Option Offered) → offered B s past ≡ q → Named s past l
    by None f = absurd (true≢false (sym e ∙ ap (λ r. is_first_on link r) f))
    by (Some o) f =
        let p = and-both o.offer.first (same_link o.link link) (sym (ap (λ r. is_first_on link r) f) ∙ e) in
        (o, (f, link-is o.link link p.1 ∙ g))

act-by : (s : ℕ) (past : List Entry) (l : LinkId) (a : Option Act) → option_and_then (λ act. confirmed_by (offered B s past) act.link act.step) a ≡ Some l → Named s past l
act-by s past l None e = absurd (none-some l e)
act-by s past l (Some act) e = let c = confirmed-some (offered B s past) act.link act.step l e in first-by s past act.link l c.0 c.1

either-by : (s : ℕ) (past : List Entry) (l : LinkId) (p q : Option LinkId) → option_or p q ≡ Some l → (p ≡ Some l → Named s past l) → (q ≡ Some l → Named s past l) → Named s past l
either-by s past l None q e f g = g e
either-by s past l (Some k) q e f g = f e

-- an end comes up on the link that B offered
pub comes-named : (x : Side) (s : ℕ) (e : Entry) (past : List Entry) (l : LinkId) → comes_up x s e past ≡ Some l → Named s past l
comes-named x s e past l c = either-by s past l (up_by x s e.event e.reply past) (option_and_then (λ act. confirmed_by (offered B s past) act.link act.step) (act_in x e past)) c
    (λ u. named-by s past l (up-by-some x s e.event e.reply past l u)) (λ u. act-by s past l (act_in x e past) u)

-- B's end does not come up with a message to A
abbrev pub comes_by : Side → ℕ → Event → Reply → List Entry → Option LinkId
comes_by x s event reply past = option_or (up_by x s event reply past) (option_and_then (λ act. confirmed_by (offered B s past) act.link act.step) (act_by x event reply past))

not-with : (s t : ℕ) (e : Entry) (past : List Entry) (l : LinkId) → e.event ≡ ClcEvent t B → comes_up B s e past ≡ Some l → ⊥
not-with s t e past l v c = none-some l (sym (ap (λ event. comes_by B s event e.reply past) v) ∙ c)

module _ (setup : Setup) (payload : List ℕ) (e : Entry) (past : List Entry) (before : ℕ) (made : IsMade setup payload past before e) (choice : Choice setup payload e past before made) (to : Stage) (now : IsWorld setup to (e ∷ past)) where
  answered-now : (s : ℕ) (l : LinkId) → comes_up B s e past ≡ Some l → is_some (offered A s (e ∷ past)) ≡ true
  answered-now s l c =
      let h = now.sockets s in
      let at = h.stands in
      let u : is_up B s (e ∷ past) ≡ true = ap (λ (q : Option LinkId). is_some q || is_up B s past) c in
      ap (λ (q : Option Offered). is_some q) (at.offer A) ∙ up-answered h.at (sym (at.up B) ∙ u)

  answered-by : (s : ℕ) (l : LinkId) → comes_up B s e past ≡ Some l → (q : Option Offered) → offered A s (e ∷ past) ≡ q → is_some q ≡ true → (o : Offered) × (offered A s past ≡ Some o)
  answered-by s l c None f g = absurd (true≢false (sym g))
  answered-by s l c (Some o) f g = by choice
    where
      by : Choice setup payload e past before made → (r : Offered) × (offered A s past ≡ Some r)
      by (inl none) = (o, sym (offered-none setup payload e past before made none A s) ∙ f)
      by (inr one) = old (old-or-new setup payload e past before made one A s o f)
        where
          old : (offered A s past ≡ Some o) ⊎ ((A ≡ one.y) × ((s ≡ one.t) × (one.offer ≡ o))) → (r : Offered) × (offered A s past ≡ Some r)
          old (inl h) = (o, h)
          old (inr h) = absurd (not-with s one.t e past l (one.event_is ∙ ap (λ y. ClcEvent one.t (other y)) (sym h.0)) c)

  -- an end comes up where its peer has offered
  pub comes-offered : (x : Side) (s : ℕ) (l : LinkId) → comes_up x s e past ≡ Some l → (o : Offered) × (offered (other x) s past ≡ Some o)
  comes-offered A s l c = let n = comes-named A s e past l c in let m = n.1 in (n.0, m.0)
  comes-offered B s l c = answered-by s l c (offered A s (e ∷ past)) refl (answered-now s l c)

-- the link at a side
abbrev table_at : Side → Stage → List Known
table_at x stage = (peer x (fabric_at stage)).table

abbrev Table : List Known → Bool → Type 0
Table table live = (((table ≡ []) × (live ≡ false)) ⊎ ((table ≡ the_known Pending ∷ []) × (live ≡ false))) ⊎ ((table ≡ the_known Live ∷ []) × (live ≡ true))

table-is : (x : Side) (stage : Stage) → Table (table_at x stage) (is_live_at x stage)
table-is A NoLink = inl (inl (refl, refl))
table-is B NoLink = inl (inl (refl, refl))
table-is A (Begun s) = inl (inl (refl, refl))
table-is B (Begun s) = inl (inl (refl, refl))
table-is A (Made s) = inl (inr (refl, refl))
table-is B (Made s) = inl (inr (refl, refl))
table-is A (Asking s qp) = inl (inr (refl, refl))
table-is B (Asking s qp) = inl (inr (refl, refl))
table-is A (LiveAtA s qp) = inr (refl, refl)
table-is B (LiveAtA s qp) = inl (inr (refl, refl))
table-is A (LiveAtBoth s) = inr (refl, refl)
table-is B (LiveAtBoth s) = inr (refl, refl)

abbrev Fates : Side → List Known → List Known → List Item
Fates x before after = filter_map (fate_of x 1 before) after

-- the link becomes live, or nothing becomes of it
fates-by : (x : Side) (before after : List Known) (was is : Bool) → Table before was → Table after is → (Fates x before after ≡ []) ⊎ ((Fates x before after ≡ Fate x the_link Live ∷ []) × (was ≡ false))
fates-by x before after was is t (inl (inl a)) = inl (ap (λ ks. Fates x before ks) a.0)
fates-by x before after was is (inl (inl b)) (inl (inr a)) = inl (ap (λ ks. Fates x before ks) a.0)
fates-by x before after was is (inl (inr b)) (inl (inr a)) = inl (ap (λ ks. Fates x before ks) a.0)
fates-by x before after was is (inr b) (inl (inr a)) = inl (ap (λ ks. Fates x before ks) a.0)
fates-by x before after was is (inl (inl b)) (inr a) = inr (ap (λ ks. Fates x ks after) b.0 ∙ ap (λ ks. Fates x [] ks) a.0, b.1)
fates-by x before after was is (inl (inr b)) (inr a) = inr (ap (λ ks. Fates x ks after) b.0 ∙ ap (λ ks. Fates x (the_known Pending ∷ []) ks) a.0, b.1)
fates-by x before after was is (inr b) (inr a) = inl (ap (λ ks. Fates x ks after) b.0 ∙ ap (λ ks. Fates x (the_known Live ∷ []) ks) a.0)

-- no end is up before
equal-not : (a n : ℕ) → (a == n) ≡ true → ((a ≡ n) → ⊥) → ⊥
equal-not a n e f = f (eqb-true a n e)

step-down : (k : Socket) (n : ℕ) (x : Side) → (first_step k == n) ≡ true → 1 ≤ n → n ≤ 3 → up_at k x ≡ false
step-down (FirstUpAtA o p) n x e l m = absurd (equal-not 4 n e (λ f. omega (arith, f, m)))
step-down (FirstUp o p) n x e l m = absurd (equal-not 5 n e (λ f. omega (arith, f, m)))
step-down (Confirmed o p) n x e l m = absurd (equal-not 0 n e (λ f. omega (arith, f, l)))
step-down (Up o p) n x e l m = absurd (equal-not 0 n e (λ f. omega (arith, f, l)))
step-down Unopened n x e l m = refl
step-down Fallen n x e l m = refl
step-down Proposed n x e l m = refl
step-down (Refused r) n x e l m = refl
step-down (FirstAccepted o) n x e l m = refl
step-down (FirstConfirmed o p) n x e l m = refl
step-down (AwaitsLink o p) n x e l m = refl
step-down (Accepted o) n x e l m = refl
step-down (AcceptRefused o r) n x e l m = refl
step-down (AcceptFallen o) n x e l m = refl

step-down-b : (k : Socket) → (first_step k == 4) ≡ true → up_at k B ≡ false
step-down-b (FirstUpAtA o p) e = refl
step-down-b (FirstUp o p) e = absurd (true≢false (sym e))
step-down-b (Confirmed o p) e = refl
step-down-b (Up o p) e = absurd (true≢false (sym e))
step-down-b Unopened e = refl
step-down-b Fallen e = refl
step-down-b Proposed e = refl
step-down-b (Refused r) e = refl
step-down-b (FirstAccepted o) e = refl
step-down-b (FirstConfirmed o p) e = refl
step-down-b (AwaitsLink o p) e = refl
step-down-b (Accepted o) e = refl
step-down-b (AcceptRefused o r) e = refl
step-down-b (AcceptFallen o) e = refl

unoffered-down : (k : Socket) (x : Side) → is_unoffered k ≡ true → up_at k x ≡ false
unoffered-down Unopened x e = refl
unoffered-down Fallen x e = refl
unoffered-down Proposed x e = refl
unoffered-down (Refused r) x e = refl
unoffered-down _ x e = absurd (true≢false (sym e))

either : (b : Bool) (p q r : Bool) → (if b then p else q) ≡ true → (p ≡ true → r ≡ false) → (q ≡ true → r ≡ false) → r ≡ false
either true p q r e f g = f e
either false p q r e f g = g e

down-at : (x : Side) (stage : Stage) (s : ℕ) (k : Socket) → is_live_at x stage ≡ false → suits stage s k ≡ true → up_at k x ≡ false
down-at x NoLink s k d e = unoffered-down k x e
down-at x (Begun t) s k d e = either (s == t) _ _ _ e (λ f. step-down k 1 x f (omega arith) (omega arith)) (λ f. unoffered-down k x f)
down-at x (Made t) s k d e = either (s == t) _ _ _ e (λ f. step-down k 2 x f (omega arith) (omega arith)) (λ f. unoffered-down k x f)
down-at x (Asking t qp) s k d e = either (s == t) _ _ _ e (λ f. step-down k 3 x f (omega arith) (omega arith)) (λ f. unoffered-down k x f)
down-at B (LiveAtA t qp) s k d e = either (s == t) _ _ _ e (λ f. step-down-b k f) (λ f. unoffered-down k B f)
down-at A (LiveAtA t qp) s k d e = absurd (true≢false d)
down-at A (LiveAtBoth t) s k d e = absurd (true≢false d)
down-at B (LiveAtBoth t) s k d e = absurd (true≢false d)

pub is-calm : (setup : Setup) (from to : Stage) (e : Entry) (past : List Entry) → IsWorld setup from past → IsWorld setup to (e ∷ past) → (x : Side) → IsCalm x e past
is-calm setup from to e past was now x = by (fates-by x (table_at x from) (table_at x to) (is_live_at x from) (is_live_at x to) (table-is x from) (table-is x to))
  where
    fates_is : fates x 1 e past ≡ Fates x (table_at x from) (table_at x to)
    fates_is =
        let at = was.link in
        let later = now.link in
        ap (λ (f : Fabric). Fates x (peer x f).table (table_of x (e ∷ past))) at.fabric_is ∙ ap (λ (f : Fabric). Fates x (table_at x from) (peer x f).table) later.fabric_is

    by : (Fates x (table_at x from) (table_at x to) ≡ []) ⊎ ((Fates x (table_at x from) (table_at x to) ≡ Fate x the_link Live ∷ []) × (is_live_at x from ≡ false)) → IsCalm x e past
    by (inl f) = inl (fates_is ∙ f)
    by (inr f) = inr (fates_is ∙ f.0, λ s. let h = was.sockets s in let at = h.stands in at.up x ∙ down-at x from s h.at f.1 h.suits_is)

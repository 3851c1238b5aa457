-- What one entry does to the keys of a side: a fact that goes on with each single change holds after the entry.
use Rattle.std.proofs.Common.{Bool, List, None, Some, [], ap, eqb-true, false, if◌then◌else◌, inl, inr, refl, subst, sym, true, true≢false, ℕ, ◌==◌, ◌∙◌, ◌∷◌, ◌≡◌}
use Rattle.std.specs.Prelude.{Option, fold}
use Rattle.pipe_model.specs.Keys.{by_post, by_step, confirms, deleted}
use Rattle.pipe_model.specs.declared.post.Post.TheVariants.{Clc, Write}
use Rattle.clc_wire.specs.declared.message.ClcMessage.TheVariants.{Accept as AcceptMessage, Confirm as ConfirmMessage, Decline as DeclineMessage, Proposal as ProposalMessage}
use Rattle.pipe_model.specs.declared.flow.FlowStep.TheVariants.{Answered, Confirmed, Live}
use Rattle.history_laws.specs.Words.{A, Act, AddKeys, AddLink, AskLink, B, Cdc, ConfirmLink, ConfirmRkey, DeleteLink, DeleteRkey, Echo, Entry, Flow, FlowStep, Forget, Gone, KeyToken, Keys, Known, Learn, LinkId, Llc, LlcMessage, Offer, Over, Post, Reject, ReplyAdd, ReplyKeys, ReplyRetry, Retry, SendKeys, Side, Skip, TestLink, Withdraw, act_in, by_act, flow_of, group_of, key_base, keys_of, named_rmbs, no_keys, registers, registers_all, registers_on, rmb_at, table_of, token_rmb, unpending, withdraws}
use Rattle.history_laws.specs.Lists.{IsAmong}
use Rattle.history_laws.proofs.Basics.{none-is, some-is}
use Rattle.link_laws.specs.FabricChanges.{OffersFirst, Takes, offer_post}
use Rattle.link_laws.specs.KeyChanges.{AsksKey, ByAnswer, ByOffer, Confirms, ForAsked, ForMade, ForOffer, ForTold, GoesOn, Registers, changes_keys, link_named}

-- a fact that goes on with each item
pub fold-goes : {X Y : Type 0} (f : Y → X → Y) (P : Y → Type 0) (xs : List X) → ((x : X) → IsAmong x xs → (y : Y) → P y → P (f y x)) → (y : Y) → P y → P (fold f y xs)
fold-goes f P [] each y p = p
fold-goes f P (x ∷ xs) each y p = fold-goes f P xs (λ z i. each z (inr i)) (f y x) (each x (inl refl) y p)

-- what one of the items brings about, and the others keep
pub fold-reaches : {X Y : Type 0} (f : Y → X → Y) (R Q : Y → Type 0) (a : X) (xs : List X) → IsAmong a xs → ((x : X) → IsAmong x xs → (y : Y) → R y → R (f y x)) → ((x : X) → IsAmong x xs → (y : Y) → Q y → Q (f y x)) → ((y : Y) → R y → Q (f y a))
    → (y : Y) → R y → Q (fold f y xs)
fold-reaches f R Q a [] i r q it y p = absurd i
fold-reaches f R Q a (x ∷ xs) (inl same) r q it y p = fold-goes f Q xs (λ z i. q z (inr i)) (f y x) (subst (λ z. Q (f y z)) same (it y p))
fold-reaches f R Q a (x ∷ xs) (inr i) r q it y p = fold-reaches f R Q a xs i (λ z h. r z (inr h)) (λ z h. q z (inr h)) it (f y x) (r x (inl refl) y p)

-- a CONFIRM RKEY of the side registers
pub post-asks : (x : Side) (table : List Known) (ks : Keys) (on : LinkId) (retry negative : Bool) (others : ℕ) (tokens : List KeyToken) (P : Keys → Type 0) → P (record ks { keys = registers_on (key_base x) (unpending table) (token_rmb tokens) ks.keys })
    → P (by_post x table ks (Llc x on (ConfirmRkey false retry negative others tokens)))
post-asks A table ks on retry negative others tokens P p = p
post-asks B table ks on retry negative others tokens P p = p

-- what one post does to keys: nothing, or an offer of first contact, or a CONFIRM RKEY of the side itself
pub post-goes : (x : Side) (table : List Known) (ks : Keys) (post : Post) (P : Keys → Type 0) → P ks
    → ((s : ℕ) (link : LinkId) (o : Offer) → post ≡ offer_post x s link o → o.first ≡ true → P (record { keys = registers (key_base x) (rmb_at o.address) ks.keys link; confirmed = confirms (rmb_at o.address) ks.confirmed }))
    → ((on : LinkId) (retry negative : Bool) (others : ℕ) (tokens : List KeyToken) → post ≡ Llc x on (ConfirmRkey false retry negative others tokens) → P (record ks { keys = registers_on (key_base x) (unpending table) (token_rmb tokens) ks.keys }))
    → P (by_post x table ks post)
post-goes A table ks (Write from link key address len) P p f g = p
post-goes A table ks (Cdc from link m) P p f g = p
post-goes A table ks (Clc B s link m) P p f g = p
post-goes A table ks (Clc A s None m) P p f g = p
post-goes A table ks (Clc A s (Some link) (ProposalMessage m)) P p f g = p
post-goes A table ks (Clc A s (Some link) (AcceptMessage o)) P p f g = p
post-goes A table ks (Clc A s (Some link) (DeclineMessage m)) P p f g = p
post-goes A table ks (Clc A s (Some link) (ConfirmMessage o)) P p f g = by o.first (f s link o refl)
  where
    by : (b : Bool) → (b ≡ true → P (record { keys = registers (key_base A) (rmb_at o.address) ks.keys link; confirmed = confirms (rmb_at o.address) ks.confirmed }))
        → P (if b then record { keys = registers (key_base A) (rmb_at o.address) ks.keys link; confirmed = confirms (rmb_at o.address) ks.confirmed } else ks)
    by true h = h refl
    by false h = p
post-goes A table ks (Llc from link (ConfirmLink reply mac gid qp k user most)) P p f g = p
post-goes A table ks (Llc from link (AddLink reply rejected reason mac gid qp k mtu psn)) P p f g = p
post-goes A table ks (Llc from link (AddKeys reply k count keys)) P p f g = p
post-goes A table ks (Llc from link (DeleteLink reply every orderly k reason)) P p f g = p
post-goes A table ks (Llc from link (ConfirmRkey true retry negative others tokens)) P p f g = p
post-goes A table ks (Llc A link (ConfirmRkey false retry negative others tokens)) P p f g = g link retry negative others tokens refl
post-goes A table ks (Llc B link (ConfirmRkey false retry negative others tokens)) P p f g = p
post-goes A table ks (Llc from link (TestLink reply bytes)) P p f g = p
post-goes A table ks (Llc from link (DeleteRkey reply negative count mask keys)) P p f g = p
post-goes B table ks (Write from link key address len) P p f g = p
post-goes B table ks (Cdc from link m) P p f g = p
post-goes B table ks (Clc A s link m) P p f g = p
post-goes B table ks (Clc B s None m) P p f g = p
post-goes B table ks (Clc B s (Some link) (ProposalMessage m)) P p f g = p
post-goes B table ks (Clc B s (Some link) (ConfirmMessage o)) P p f g = p
post-goes B table ks (Clc B s (Some link) (DeclineMessage m)) P p f g = p
post-goes B table ks (Clc B s (Some link) (AcceptMessage o)) P p f g = by o.first (f s link o refl)
  where
    by : (b : Bool) → (b ≡ true → P (record { keys = registers (key_base B) (rmb_at o.address) ks.keys link; confirmed = confirms (rmb_at o.address) ks.confirmed }))
        → P (if b then record { keys = registers (key_base B) (rmb_at o.address) ks.keys link; confirmed = confirms (rmb_at o.address) ks.confirmed } else ks)
    by true h = h refl
    by false h = p
post-goes B table ks (Llc from link (ConfirmLink reply mac gid qp k user most)) P p f g = p
post-goes B table ks (Llc from link (AddLink reply rejected reason mac gid qp k mtu psn)) P p f g = p
post-goes B table ks (Llc from link (AddKeys reply k count keys)) P p f g = p
post-goes B table ks (Llc from link (DeleteLink reply every orderly k reason)) P p f g = p
post-goes B table ks (Llc from link (ConfirmRkey true retry negative others tokens)) P p f g = p
post-goes B table ks (Llc A link (ConfirmRkey false retry negative others tokens)) P p f g = p
post-goes B table ks (Llc B link (ConfirmRkey false retry negative others tokens)) P p f g = g link retry negative others tokens refl
post-goes B table ks (Llc from link (TestLink reply bytes)) P p f g = p
post-goes B table ks (Llc from link (DeleteRkey reply negative count mask keys)) P p f g = p

-- what one step of the flows does to keys: nothing, or one of four things
pub step-goes : (x : Side) (flow : Flow) (table : List Known) (m : LlcMessage) (landed : ℕ) (step : FlowStep) (ks : Keys) (P : Keys → Type 0) → (changes_keys step ≡ false → P ks)
    → (step ≡ ReplyAdd false → P (by_step x flow table m landed (ReplyAdd false) ks)) → (step ≡ SendKeys → P (by_step x flow table m landed SendKeys ks))
    → (step ≡ Confirmed → P (record ks { confirmed = confirms flow.rmb ks.confirmed })) → (step ≡ Withdraw → P (withdraws (named_rmbs (deleted m) ks.keys) ks))
    → P (by_step x flow table m landed step ks)
step-goes x flow table m landed Skip ks P p a s c w = p refl
step-goes x flow table m landed (Live reply first) ks P p a s c w = p refl
step-goes x flow table m landed SendKeys ks P p a s c w = s refl
step-goes x flow table m landed Over ks P p a s c w = p refl
step-goes x flow table m landed AskLink ks P p a s c w = p refl
step-goes x flow table m landed (ReplyKeys known) ks P p a s c w = p refl
step-goes x flow table m landed (ReplyAdd true) ks P p a s c w = p refl
step-goes x flow table m landed (ReplyAdd false) ks P p a s c w = a refl
step-goes x flow table m landed Reject ks P p a s c w = p refl
step-goes x flow table m landed Confirmed ks P p a s c w = c refl
step-goes x flow table m landed Retry ks P p a s c w = p refl
step-goes x flow table m landed Withdraw ks P p a s c w = w refl
step-goes x flow table m landed ReplyRetry ks P p a s c w = p refl
step-goes x flow table m landed Learn ks P p a s c w = p refl
step-goes x flow table m landed Forget ks P p a s c w = p refl
step-goes x flow table m landed (Gone report) ks P p a s c w = p refl
step-goes x flow table m landed Answered ks P p a s c w = p refl
step-goes x flow table m landed Echo ks P p a s c w = p refl

module _ (x : Side) (e : Entry) (past : List Entry) (P : Keys → Type 0) where
  -- the keys after what has landed
  abbrev pub taken : Keys
  taken = by_act x (flow_of x past) (table_of x (e ∷ past)) (act_in x e past) (keys_of x past)

  -- what has landed: the four steps that change keys
  pub act-goes : (((step : FlowStep) → changes_keys step ≡ true → Takes x e past step → ⊥) → P (keys_of x past))
      → ((t : Takes x e past (ReplyAdd false)) → P (record (keys_of x past) { keys = registers_all (key_base x) (link_named x e past t.act) (keys_of x past).confirmed (keys_of x past).keys }))
      → ((t : Takes x e past SendKeys) → P (record (keys_of x past) { keys = registers_all (key_base x) (link_named x e past t.act) (keys_of x past).confirmed (keys_of x past).keys }))
      → (Takes x e past Confirmed → P (record (keys_of x past) { confirmed = confirms (flow_of x past).rmb (keys_of x past).confirmed }))
      → ((t : Takes x e past Withdraw) → P (withdraws (named_rmbs (deleted t.act.message) (keys_of x past).keys) (keys_of x past)))
      → P taken
  act-goes p a s c w = by (act_in x e past) refl
    where
      by : (o : Option Act) → act_in x e past ≡ o → P (by_act x (flow_of x past) (table_of x (e ∷ past)) o (keys_of x past))
      by None is = p (λ step c t. none-is t.act (sym is ∙ t.is))
      by (Some act) is = step-goes x (flow_of x past) (table_of x (e ∷ past)) act.message act.link.slot act.step (keys_of x past) P (λ q. p (λ step c t. true≢false (sym (ap changes_keys (ap (λ (a : Act). a.step) (some-is act t.act (sym is ∙ t.is)) ∙ t.does) ∙ c) ∙ q)))
          (λ d. a (record { act = act; is = is; does = d })) (λ d. s (record { act = act; is = is; does = d }))
          (λ d. c (record { act = act; is = is; does = d })) (λ d. w (record { act = act; is = is; does = d }))

  -- what is posted: offers of first contact and CONFIRM RKEYs; and all goes with the group
  pub posts-go-by : P taken
      → ((link : LinkId) (o : Offer) → OffersFirst x e link o → (ks : Keys) → P ks → P (record { keys = registers (key_base x) (rmb_at o.address) ks.keys link; confirmed = confirms (rmb_at o.address) ks.confirmed }))
      → ((link : LinkId) (tokens : List KeyToken) → AsksKey x e tokens → IsAmong link (unpending (table_of x (e ∷ past))) → (ks : Keys) → P ks → P (record ks { keys = registers (key_base x) (token_rmb tokens) ks.keys link }))
      → (group_of x (e ∷ past) ≡ 0 → P no_keys)
      → P (keys_of x (e ∷ past))
  posts-go-by p offered asked n = if-group (group_of x (e ∷ past) == 0) refl
    where
      posted : P (fold (by_post x (table_of x (e ∷ past))) taken e.posts)
      posted = fold-goes (by_post x (table_of x (e ∷ past))) P e.posts (λ post i ks q. post-goes x (table_of x (e ∷ past)) ks post P q
          (λ s link o is first. offered link o (record { s = s; posted = subst (λ y. IsAmong y e.posts) is i; first = first }) ks q)
          (λ on retry negative others tokens is. let it : AsksKey x e tokens = record { on = on; retry = retry; negative = negative; others = others; posted = subst (λ y. IsAmong y e.posts) is i } in
          fold-goes (registers (key_base x) (token_rmb tokens)) (λ keys. P (record ks { keys = keys })) (unpending (table_of x (e ∷ past)))
          (λ link known keys had. asked link tokens it known (record ks { keys = keys }) had) ks.keys q)) taken p

      if-group : (b : Bool) → (group_of x (e ∷ past) == 0) ≡ b → P (if b then no_keys else fold (by_post x (table_of x (e ∷ past))) taken e.posts)
      if-group true e = n (eqb-true _ _ e)
      if-group false e = posted

  -- what a CONFIRM RKEY that is posted brings about, `P` being kept by all posts
  pub posts-reach : (R : Keys → Type 0) → R taken
      → ((link : LinkId) (o : Offer) → OffersFirst x e link o → (ks : Keys) → R ks → R (record { keys = registers (key_base x) (rmb_at o.address) ks.keys link; confirmed = confirms (rmb_at o.address) ks.confirmed }))
      → ((tokens : List KeyToken) → AsksKey x e tokens → (ks : Keys) → R ks → R (record ks { keys = registers_on (key_base x) (unpending (table_of x (e ∷ past))) (token_rmb tokens) ks.keys }))
      → ((link : LinkId) (o : Offer) → OffersFirst x e link o → (ks : Keys) → P ks → P (record { keys = registers (key_base x) (rmb_at o.address) ks.keys link; confirmed = confirms (rmb_at o.address) ks.confirmed }))
      → ((tokens : List KeyToken) → AsksKey x e tokens → (ks : Keys) → P ks → P (record ks { keys = registers_on (key_base x) (unpending (table_of x (e ∷ past))) (token_rmb tokens) ks.keys }))
      → (tokens : List KeyToken) → AsksKey x e tokens → ((ks : Keys) → R ks → P (record ks { keys = registers_on (key_base x) (unpending (table_of x (e ∷ past))) (token_rmb tokens) ks.keys }))
      → (group_of x (e ∷ past) ≡ 0 → P no_keys)
      → P (keys_of x (e ∷ past))
  posts-reach R p offered_r asked_r offered_p asked_p tokens it brings n = if-group (group_of x (e ∷ past) == 0) refl
    where
      each : (Q : Keys → Type 0) → ((link : LinkId) (o : Offer) → OffersFirst x e link o → (ks : Keys) → Q ks → Q (record { keys = registers (key_base x) (rmb_at o.address) ks.keys link; confirmed = confirms (rmb_at o.address) ks.confirmed }))
          → ((tokens : List KeyToken) → AsksKey x e tokens → (ks : Keys) → Q ks → Q (record ks { keys = registers_on (key_base x) (unpending (table_of x (e ∷ past))) (token_rmb tokens) ks.keys }))
          → (post : Post) → IsAmong post e.posts → (ks : Keys) → Q ks → Q (by_post x (table_of x (e ∷ past)) ks post)
      each Q offered asked post i ks q = post-goes x (table_of x (e ∷ past)) ks post Q q
          (λ s link o is first. offered link o (record { s = s; posted = subst (λ y. IsAmong y e.posts) is i; first = first }) ks q)
          (λ on retry negative others tokens is. asked tokens (record { on = on; retry = retry; negative = negative; others = others; posted = subst (λ y. IsAmong y e.posts) is i }) ks q)

      posted : P (fold (by_post x (table_of x (e ∷ past))) taken e.posts)
      posted = fold-reaches (by_post x (table_of x (e ∷ past))) R P (Llc x it.on (ConfirmRkey false it.retry it.negative it.others tokens)) e.posts it.posted (each R offered_r asked_r) (each P offered_p asked_p)
          (λ ks r. post-asks x (table_of x (e ∷ past)) ks it.on it.retry it.negative it.others tokens P (brings ks r)) taken p

      if-group : (b : Bool) → (group_of x (e ∷ past) == 0) ≡ b → P (if b then no_keys else fold (by_post x (table_of x (e ∷ past))) taken e.posts)
      if-group true e = n (eqb-true _ _ e)
      if-group false e = posted

  -- the same change by change
  pub posts-go : P taken
      → ((rmb : ℕ) (link : LinkId) → Registers x e past rmb link → (ks : Keys) → P ks → P (record ks { keys = registers (key_base x) rmb ks.keys link }))
      → ((rmb : ℕ) → Confirms x e past rmb → (ks : Keys) → P ks → P (record ks { confirmed = confirms rmb ks.confirmed }))
      → (group_of x (e ∷ past) ≡ 0 → P no_keys)
      → P (keys_of x (e ∷ past))
  posts-go p r c n = posts-go-by p
      (λ link o it ks q. c (rmb_at o.address) (ByOffer link o it) (record ks { keys = registers (key_base x) (rmb_at o.address) ks.keys link }) (r (rmb_at o.address) link (ForOffer link o it) ks q))
      (λ link tokens it known ks q. r (token_rmb tokens) link (ForAsked link tokens it known) ks q) n

-- all together
pub keys-after : (x : Side) (e : Entry) (past : List Entry) (P : Keys → Type 0) → GoesOn x e past P → P (keys_of x (e ∷ past))
keys-after x e past P go = posts-go x e past P (act-goes x e past P (λ quiet. go.was)
    (λ t. fold-goes (λ ks rmb. registers (key_base x) rmb ks (link_named x e past t.act)) (λ keys. P (record (keys_of x past) { keys = keys })) (keys_of x past).confirmed
    (λ rmb i keys had. go.registered rmb (link_named x e past t.act) (ForMade rmb t i) (record (keys_of x past) { keys = keys }) had) (keys_of x past).keys go.was)
    (λ t. fold-goes (λ ks rmb. registers (key_base x) rmb ks (link_named x e past t.act)) (λ keys. P (record (keys_of x past) { keys = keys })) (keys_of x past).confirmed
    (λ rmb i keys had. go.registered rmb (link_named x e past t.act) (ForTold rmb t i) (record (keys_of x past) { keys = keys }) had) (keys_of x past).keys go.was)
    (λ t. go.confirmed (flow_of x past).rmb (ByAnswer t) (keys_of x past) go.was)
    go.withdrawn) go.registered go.confirmed go.ended

-- Posts that offer nothing and ask for no key: what the pipes post, CLC messages with no offer, and CONFIRM LINK with its reply.
use Rattle.std.proofs.Common.{◌≡◌, ◌∙◌, ℕ, ◌+◌, ◌==◌, Bool, true, false, cond, if◌then◌else◌, List, [], ◌∷◌, ◌++◌, length, map, filter, filter_map, refl, ap}
use Rattle.std.specs.Prelude.{Option, Some, None, unwrap_or, fold, option_map}
use Rattle.std.specs.List.{cons_option}
use Rattle.std.specs.Option.{option_or}
use Rattle.smc_num.specs.declared.Side.{Side}
use Rattle.smc_num.specs.declared.LinkId.{LinkId}
use Rattle.clc_wire.specs.declared.message.ClcMessage.{ClcMessage}
use Rattle.clc_wire.specs.declared.message.ClcMessage.TheVariants.{Proposal, Accept, Confirm, Decline}
use Rattle.cdc_wire.specs.declared.CdcMessage.{CdcMessage}
use Rattle.smc_num.specs.declared.Side.TheVariants.{A, B}
use Rattle.smc_num.specs.Names.{at_side, head, up_to, other}
use Rattle.smc_num.specs.Links.{Known}
use Rattle.llc_wire.specs.declared.LlcMessage.{LlcMessage}
use Rattle.llc_wire.specs.declared.LlcMessage.TheVariants.{ConfirmLink}
use Rattle.pipe_model.specs.declared.event.Event.{Event}
use Rattle.pipe_model.specs.declared.event.Event.TheVariants.{Grow}
use Rattle.pipe_model.specs.declared.reply.Reply.{Reply}
use Rattle.pipe_model.specs.declared.reply.Reply.TheVariants.{Sent}
use Rattle.pipe_model.specs.declared.reply.SentKind.TheVariants.{AddLink as AddLinkSent}
use Rattle.pipe_model.specs.declared.post.Post.{Post}
use Rattle.pipe_model.specs.declared.post.Post.TheVariants.{Write, Cdc, Llc, Clc}
use Rattle.pipe_model.specs.declared.entry.Entry.{Entry}
use Rattle.pipe_model.specs.History.{Offered, offered, offer_in}
use Rattle.pipe_model.specs.Fabric.{act_in}
use Rattle.pipe_model.specs.Keys.{Keys, by_post}
use Rattle.pipe_model.specs.Lending.{Lending, lends, lendings}
use Rattle.pipe_model.specs.Messages.{asked_pair, pair_in, pair_number, first_pair, act_pair, new_pair, serial, pair_on}
use Rattle.pipe_model.specs.Posts.{begins_group_in, groups_begun}
use Rattle.side_core.specs.Desk.{most_slots}
use Rattle.world_core.specs.Views.{is_data, AreData}
use Rattle.world_core.specs.Managers.{begins_on, first_on}
use Rattle.world_core.proofs.Plain.{plus-none, none-asked}
use Rattle.world_core.proofs.QuietEvents.{by-side}
use Rattle.world_core.proofs.SameManagers.{SameRoute, heard-same}
use Rattle.pipe_model.specs.Connections.{is_up, end_state}

-- whether an LLC message is CONFIRM LINK or the reply to it
abbrev pub confirms : LlcMessage → Bool
confirms (ConfirmLink reply mac gid qp link user most) = true
confirms _ = false

-- whether a CLC message is a Proposal or a Decline
abbrev pub offers_none : ClcMessage → Bool
offers_none (Proposal p) = true
offers_none (Decline r) = true
offers_none _ = false

-- whether a post is plain
abbrev pub is_plain : Post → Bool
is_plain (Write from link key address len) = true
is_plain (Cdc from link m) = true
is_plain (Clc from s None m) = offers_none m
is_plain (Llc from link m) = confirms m
is_plain _ = false

-- all are
abbrev pub ArePlain : List Post → Type 0
ArePlain [] = Unit {0}
ArePlain (p ∷ ps) = (is_plain p ≡ true) × ArePlain ps

pub data-plain : (ps : List Post) → AreData ps → ArePlain ps
data-plain [] a = tt
data-plain (p ∷ ps) a = (one p a.0, data-plain ps a.1)
  where
    one : (p : Post) → is_data p ≡ true → is_plain p ≡ true
    one (Write from link key address len) e = refl
    one (Cdc from link m) e = refl
    one (Llc from link m) e = cc
    one (Clc from s link m) e = cc

-- what holds of each kind holds of a plain post
by-plain : (P : Post → Type 0) → ((from : Side) (link : LinkId) (key address len : ℕ) → P (Write from link key address len)) → ((from : Side) (link : LinkId) (m : CdcMessage) → P (Cdc from link m))
    → ((from : Side) (s : ℕ) (m : ClcMessage) → offers_none m ≡ true → P (Clc from s None m)) → ((from : Side) (link : LinkId) (reply : Bool) (mac gid : List ℕ) (qp slot user most : ℕ) → P (Llc from link (ConfirmLink reply mac gid qp slot user most)))
    → (p : Post) → is_plain p ≡ true → P p
by-plain P w c k l (Write from link key address len) e = w from link key address len
by-plain P w c k l (Cdc from link m) e = c from link m
by-plain P w c k l (Clc from s None m) e = k from s m e
by-plain P w c k l (Clc from s (Some link) m) e = cc
by-plain P w c k l (Llc from link (ConfirmLink reply mac gid qp slot user most)) e = l from link reply mac gid qp slot user most
by-plain P w c k l (Llc from link m) e = cc

skip-asked : (event : Event) (reply : Reply) (p : Post) → is_plain p ≡ true → asked_pair event reply p ≡ 0
skip-asked Grow (Sent AddLinkSent) = by-plain (λ p. asked_pair Grow (Sent AddLinkSent) p ≡ 0) (λ from link key address len. refl) (λ from link m. refl) (λ from s m o. refl) (λ from link reply mac gid qp slot user most. side from reply mac gid qp slot user most link)
  where
    side : (from : Side) (reply : Bool) (mac gid : List ℕ) (qp slot user most : ℕ) (link : LinkId) → asked_pair Grow (Sent AddLinkSent) (Llc from link (ConfirmLink reply mac gid qp slot user most)) ≡ 0
    side A reply mac gid qp slot user most link = refl
    side B reply mac gid qp slot user most link = refl
skip-asked event reply = λ p e. refl

skip-pair : (x : Side) (p : Post) → is_plain p ≡ true → pair_in x p ≡ 0
skip-pair A = by-plain (λ p. pair_in A p ≡ 0) (λ from link key address len. refl) (λ from link m. refl) (λ from s m o. by-side (λ y. pair_in A (Clc y s None m) ≡ 0) refl refl from) (λ from link reply mac gid qp slot user most. refl)
skip-pair B = by-plain (λ p. pair_in B p ≡ 0) (λ from link key address len. refl) (λ from link m. refl) (λ from s m o. by-side (λ y. pair_in B (Clc y s None m) ≡ 0) refl refl from) (λ from link reply mac gid qp slot user most. refl)

skip-lending : (x : Side) (p : Post) → is_plain p ≡ true → lends x p ≡ None
skip-lending A = by-plain (λ p. lends A p ≡ None) (λ from link key address len. refl) (λ from link m. refl) (λ from s m o. by-side (λ y. lends A (Clc y s None m) ≡ None) refl refl from) (λ from link reply mac gid qp slot user most. refl)
skip-lending B = by-plain (λ p. lends B p ≡ None) (λ from link key address len. refl) (λ from link m. refl) (λ from s m o. by-side (λ y. lends B (Clc y s None m) ≡ None) refl refl from) (λ from link reply mac gid qp slot user most. refl)

skip-beginning : (x : Side) (p : Post) → is_plain p ≡ true → begins_on x p ≡ None
skip-beginning A = by-plain (λ p. begins_on A p ≡ None) (λ from link key address len. refl) (λ from link m. refl) (λ from s m o. by-side (λ y. begins_on A (Clc y s None m) ≡ None) refl refl from) (λ from link reply mac gid qp slot user most. refl)
skip-beginning B = by-plain (λ p. begins_on B p ≡ None) (λ from link key address len. refl) (λ from link m. refl) (λ from s m o. by-side (λ y. begins_on B (Clc y s None m) ≡ None) refl refl from) (λ from link reply mac gid qp slot user most. refl)

skip-offer : (x : Side) (t : ℕ) (p : Post) → is_plain p ≡ true → offer_in x t p ≡ None
skip-offer A t = by-plain (λ p. offer_in A t p ≡ None) (λ from link key address len. refl) (λ from link m. refl) (λ from s m o. by-side (λ y. offer_in A t (Clc y s None m) ≡ None) refl refl from) (λ from link reply mac gid qp slot user most. refl)
skip-offer B t = by-plain (λ p. offer_in B t p ≡ None) (λ from link key address len. refl) (λ from link m. refl) (λ from s m o. by-side (λ y. offer_in B t (Clc y s None m) ≡ None) refl refl from) (λ from link reply mac gid qp slot user most. refl)

skip-group : (p : Post) → is_plain p ≡ true → begins_group_in p ≡ false
skip-group = by-plain (λ p. begins_group_in p ≡ false) (λ from link key address len. refl) (λ from link m. refl) (λ from s m o. none from s m o) (λ from link reply mac gid qp slot user most. refl)
  where
    none : (from : Side) (s : ℕ) (m : ClcMessage) → offers_none m ≡ true → begins_group_in (Clc from s None m) ≡ false
    none A s m o = refl
    none B s (Accept o) e = cc
    none B s (Proposal p) e = refl
    none B s (Confirm o) e = refl
    none B s (Decline r) e = refl

skip-keys : (x : Side) (table : List Known) (ks : Keys) (p : Post) → is_plain p ≡ true → by_post x table ks p ≡ ks
skip-keys A table ks = by-plain (λ p. by_post A table ks p ≡ ks) (λ from link key address len. refl) (λ from link m. refl) (λ from s m o. by-side (λ y. by_post A table ks (Clc y s None m) ≡ ks) refl refl from) (λ from link reply mac gid qp slot user most. refl)
skip-keys B table ks = by-plain (λ p. by_post B table ks p ≡ ks) (λ from link key address len. refl) (λ from link m. refl) (λ from s m o. by-side (λ y. by_post B table ks (Clc y s None m) ≡ ks) refl refl from) (λ from link reply mac gid qp slot user most. refl)

-- words on lists that pass over them
skip-all : {X : Type 0} (f : Post → Option X) → ((p : Post) → is_plain p ≡ true → f p ≡ None) → (ps : List Post) → ArePlain ps → filter_map f ps ≡ []
skip-all f skips [] a = refl
skip-all f skips (p ∷ ps) a = ap (λ o. cons_option o (filter_map f ps)) (skips p a.0) ∙ skip-all f skips ps a.1

pub plain-pair : (x : Side) (event : Event) (reply : Reply) (ps : List Post) → ArePlain ps → first_pair x event reply ps ≡ 0
plain-pair x event reply [] a = refl
plain-pair x event reply (p ∷ ps) a =
    ap (λ n. n + at_side x 0 (asked_pair event reply p)) (skip-pair x p a.0) ∙ ap (λ n. 0 + n) (none-asked x (asked_pair event reply p) (skip-asked event reply p a.0))

plain-groups : (ps : List Post) → ArePlain ps → filter begins_group_in ps ≡ []
plain-groups [] a = refl
plain-groups (p ∷ ps) a = ap (λ b. cond b (p ∷ filter begins_group_in ps) (filter begins_group_in ps)) (skip-group p a.0) ∙ plain-groups ps a.1

pub plain-keys : (x : Side) (table : List Known) (ks : Keys) (ps : List Post) → ArePlain ps → fold (by_post x table) ks ps ≡ ks
plain-keys x table ks [] a = refl
plain-keys x table ks (p ∷ ps) a = ap (λ k. fold (by_post x table) k ps) (skip-keys x table ks p a.0) ∙ plain-keys x table ks ps a.1

pub plain-append : (ps qs : List Post) → ArePlain ps → ArePlain qs → ArePlain (ps ++ qs)
plain-append [] qs a b = b
plain-append (p ∷ ps) qs a b = (a.0, plain-append ps qs a.1 b)

-- an entry of plain posts
module _ (e : Entry) (past : List Entry) (plain : ArePlain e.posts) where
  pub groups-stay : groups_begun (e ∷ past) ≡ groups_begun past
  groups-stay = ap (λ (ps : List Post). groups_begun past + length ps) (plain-groups e.posts plain) ∙ plus-none (groups_begun past)

  pub lends-none : (x : Side) → filter_map (lends x) e.posts ≡ []
  lends-none x = skip-all (lends x) (skip-lending x) e.posts plain

  pub lendings-stay : (x : Side) → lendings x (e ∷ past) ≡ lendings x past
  lendings-stay x = ap (λ (ls : List Lending). ls ++ lendings x past) (lends-none x)

  pub first-stays : (x : Side) → first_on x (e ∷ past) ≡ first_on x past
  first-stays x = ap (λ (ns : List ℕ). unwrap_or (head ns) (first_on x past)) (skip-all (begins_on x) (skip-beginning x) e.posts plain)

  pub offer-stays : (x : Side) (s : ℕ) → offered x s (e ∷ past) ≡ offered x s past
  offer-stays x s = ap (λ (os : List Offered). option_or (head os) (offered x s past)) (skip-all (offer_in x s) (skip-offer x s) e.posts plain)

  pub plain-route : (x : Side) (s : ℕ) → is_up x s (e ∷ past) ≡ is_up x s past → end_state x s (e ∷ past) ≡ end_state x s past → SameRoute x (e ∷ past) past s
  plain-route x s up state = record { up = up; link = ap (λ o. option_map (λ (p : Offered). p.link) o) (offer-stays B s); heard = heard-same x (e ∷ past) past s state (offer-stays (other x) s) }

  module _ (x : Side) (acts : act_pair (act_in x e past) ≡ 0) where
    no-new-pair : new_pair x e past ≡ 0
    no-new-pair = ap (λ n. n + first_pair x e.event e.reply e.posts) acts ∙ ap (λ n. 0 + n) (plain-pair x e.event e.reply e.posts plain)

    pub serial-stays : serial x (e ∷ past) ≡ serial x past
    serial-stays = ap (λ n. serial x past + (if n == 0 then 0 else 1)) no-new-pair ∙ plus-none (serial x past)

    pub pairs-stay : map (λ k. pair_on x k (e ∷ past)) (up_to most_slots) ≡ map (λ k. pair_on x k past) (up_to most_slots)
    pairs-stay = ap (λ n. map (λ k. if n == k then pair_number (serial x past + 1) k else pair_on x k past) (up_to most_slots)) no-new-pair

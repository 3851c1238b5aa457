-- The keys of a side, the RMBs that its peer was told of, and what it has learnt of the peer's keys.
-- A reader learns here when keys are registered, confirmed, learnt and withdrawn, and when a number may be bound again.
use Rattle.std.specs.Prelude.{ℕ, ◌+◌, ◌==◌, ◌&&◌, not, nat_lt, Bool, true, false, if◌then◌else◌, List, [], ◌∷◌, ◌++◌, length, take, map, filter, filter_map, flat_map, find, fold, All, Option, Some, None, option_map, unwrap_or, IsTrue}
use Rattle.std.specs.List.{list_any}
use Rattle.std.specs.Option.{option_or}
use Rattle.smc_num.specs.declared.Side.{Side}
use Rattle.smc_num.specs.declared.Side.TheVariants.{A, B}
use Rattle.smc_num.specs.declared.LinkId.{LinkId}
use Rattle.smc_num.specs.Names.{same_side, same_link, has, head, up_to}
use Rattle.smc_num.specs.Links.{Known, unpending, link_at, link_or_none}
use Rattle.smc_num.specs.Places.{rmb_at}
use Rattle.clc_wire.specs.declared.offer.Offer.{Offer}
use Rattle.llc_wire.specs.declared.NewKey.{NewKey}
use Rattle.llc_wire.specs.declared.KeyToken.{KeyToken}
use Rattle.clc_wire.specs.declared.message.ClcMessage.TheVariants.{Accept, Confirm}
use Rattle.llc_wire.specs.declared.LlcMessage.{LlcMessage}
use Rattle.llc_wire.specs.declared.LlcMessage.TheVariants.{AddKeys, ConfirmRkey, DeleteRkey}
use Rattle.pipe_model.specs.declared.flow.FlowStep.{FlowStep}
use Rattle.pipe_model.specs.declared.flow.FlowStep.TheVariants.{SendKeys, AskLink, ReplyKeys, ReplyAdd, Confirmed, Withdraw, Learn, Forget}
use Rattle.pipe_model.specs.declared.reply.SentKind.TheVariants.{Confirm as ConfirmSent, ConfirmLink as LinkSent}
use Rattle.pipe_model.specs.declared.event.Event.{Event}
use Rattle.pipe_model.specs.declared.event.Event.TheVariants.{Clc as ClcEvent}
use Rattle.pipe_model.specs.declared.reply.Reply.{Reply}
use Rattle.pipe_model.specs.declared.reply.Reply.TheVariants.{Sent}
use Rattle.pipe_model.specs.declared.post.Post.{Post}
use Rattle.pipe_model.specs.declared.post.Post.TheVariants.{Clc, Llc}
use Rattle.pipe_model.specs.declared.entry.Entry.{Entry}
use Rattle.pipe_model.specs.History.{Offered, offered}
use Rattle.pipe_model.specs.Flows.{named_slot, Flow}
use Rattle.pipe_model.specs.Fabric.{Act, act_in, group_of, table_of, flow_of}
use Rattle.pipe_model.specs.Lending.{Lending, lendings, is_done_with}
use Rattle.smc_num.specs.Keys.{Key, registers, registers_all, bound, registers_on, binds, rmbs_bound, key_base}

-- the keys of a side, and its confirmed RMBs, the lowest first
-- RFC 7609, 2.1
pub record Keys : Type 0 where
  pub keys : List Key
  pub confirmed : List ℕ

-- a side without keys
-- ours: a state without keys
abbrev pub no_keys : Keys
no_keys = record { keys = []; confirmed = [] }

-- one RMB more, in order
-- ours: a list helper
abbrev pub confirms : ℕ → List ℕ → List ℕ
confirms rmb [] = rmb ∷ []
confirms rmb (r ∷ rs) = if rmb == r then r ∷ rs else if nat_lt rmb r then rmb ∷ r ∷ rs else r ∷ confirms rmb rs

-- the RMBs whose keys a message names
-- ours: a list helper
abbrev pub named_rmbs : List ℕ → List Key → List ℕ
named_rmbs named keys = map (λ k. k.rmb) (filter (λ k. has k.key named) keys)

-- the keys of some RMBs are withdrawn
-- RFC 7609, 3.3: DELETE RKEY
abbrev pub withdraws : List ℕ → Keys → Keys
withdraws rmbs ks = record { keys = filter (λ k. not (has k.rmb rmbs)) ks.keys; confirmed = filter (λ r. not (has r rmbs)) ks.confirmed }

-- the keys that a DELETE RKEY names
-- RFC 7609, A.3: DELETE RKEY
abbrev pub deleted : LlcMessage → List ℕ
deleted (DeleteRkey reply negative count mask keys) = take count keys
deleted _ = []

-- what a step of the flows does to the keys of a side, which knows these links after it
-- RFC 7609, 3.3; when an RMB is registered is ours
abbrev pub by_step : Side → Flow → List Known → LlcMessage → ℕ → FlowStep → Keys → Keys
by_step x flow table m landed (ReplyAdd false) ks = record ks { keys = registers_all (key_base x) (link_or_none (named_slot m landed) table) ks.confirmed ks.keys }
by_step x flow table m landed SendKeys ks = record ks { keys = registers_all (key_base x) (link_or_none (named_slot m landed) table) ks.confirmed ks.keys }
by_step x flow table m landed Confirmed ks = record ks { confirmed = confirms flow.rmb ks.confirmed }
by_step x flow table m landed Withdraw ks = withdraws (named_rmbs (deleted m) ks.keys) ks
by_step x flow table m landed _ ks = ks

-- what an act does to the keys
-- ours: a case for each act
abbrev pub by_act : Side → Flow → List Known → Option Act → Keys → Keys
by_act x flow table None ks = ks
by_act x flow table (Some act) ks = by_step x flow table act.message act.link.slot act.step ks

-- what a post does: an offer of first contact tells the key of its RMB, a CONFIRM RKEY those of an RMB on all links
-- RFC 7609, 3.5: an offer tells a key
abbrev pub offers : Side → LinkId → Offer → Keys → Keys
offers x link o ks = if o.first then record { keys = registers (key_base x) (rmb_at o.address) ks.keys link; confirmed = confirms (rmb_at o.address) ks.confirmed } else ks

-- the RMB that a CONFIRM RKEY is about
-- ours: an RMB is known by its address
abbrev pub token_rmb : List KeyToken → ℕ
token_rmb [] = 0
token_rmb (token ∷ tokens) = rmb_at token.address

-- what a post of a side does to its keys
-- RFC 7609, 3.3 and 3.5; when an RMB is registered is ours
abbrev pub by_post : Side → List Known → Keys → Post → Keys
by_post B table ks (Clc B s (Some link) (Accept o)) = offers B link o ks
by_post A table ks (Clc A s (Some link) (Confirm o)) = offers A link o ks
by_post x table ks (Llc from link (ConfirmRkey false retry negative others tokens)) =
    if same_side x from then record ks { keys = registers_on (key_base x) (unpending table) (token_rmb tokens) ks.keys } else ks
by_post x table ks _ = ks

-- all keys go with the group
-- ours: keys go with the links that they are for
abbrev pub if_group : ℕ → Keys → Keys
if_group group ks = if group == 0 then no_keys else ks

-- the keys of a side after a history
-- ours: a state after a history
abbrev pub keys_of : Side → List Entry → Keys
keys_of x [] = no_keys
keys_of x (e ∷ older) = if_group (group_of x (e ∷ older)) (fold (by_post x (table_of x (e ∷ older))) (by_act x (flow_of x older) (table_of x (e ∷ older)) (act_in x e older) (keys_of x older)) e.posts)

-- the key last bound to an RMB for a link
-- ours: the key of a write once the group has ended
abbrev pub last_bound : Side → ℕ → LinkId → List Entry → Option ℕ
last_bound x rmb link [] = None
last_bound x rmb link (e ∷ older) = option_or (bound rmb link (keys_of x (e ∷ older)).keys) (last_bound x rmb link older)

-- what a side has learnt of its peer's keys
-- ours: a key replaces the earlier one of its RMB and slot
abbrev pub learns : List Key → Key → List Key
learns book new = binds new book

-- it learns the key of an offer
-- RFC 7609, 3.5: an offer tells a key
abbrev pub learns_offer : Option Offered → List Key → List Key
learns_offer None book = book
learns_offer (Some o) book = learns book (record { key = o.offer.key; rmb = rmb_at o.offer.address; link = o.link })

-- the tokens of a CONFIRM RKEY: the first for the link that carries it, the others for the links of their slots
-- RFC 7609, A.3: CONFIRM RKEY
abbrev pub token_key : List Known → KeyToken → Option Key
token_key table t = option_map (λ link. let key : Key = record { key = t.key; rmb = rmb_at t.address; link = link } in key) (link_at t.number table)

-- all keys that a CONFIRM RKEY tells
-- RFC 7609, A.3: CONFIRM RKEY
abbrev pub token_keys : LinkId → List Known → ℕ → List KeyToken → List Key
token_keys link table others [] = []
token_keys link table others (t ∷ ts) = record { key = t.key; rmb = rmb_at t.address; link = link } ∷ filter_map (token_key table) (take others ts)

-- the entries of an ADD LINK CONTINUATION whose reference key is known for the link that carries it
-- RFC 7609, A.3: ADD LINK CONTINUATION
abbrev pub known_rmb : ℕ → LinkId → List Key → Option ℕ
known_rmb key link book = head (rmbs_bound key link book)

-- the key that an entry tells for a new link
-- RFC 7609, A.3: ADD LINK CONTINUATION
abbrev pub new_key : LinkId → LinkId → List Key → NewKey → Option Key
new_key on link book k = option_map (λ rmb. let key : Key = record { key = k.fresh; rmb = rmb; link = link } in key) (known_rmb k.reference on book)

-- it learns the keys of a message
-- RFC 7609, 3.3
abbrev pub learns_message : LinkId → List Known → ℕ → LlcMessage → List Key → List Key
learns_message on table slot (ConfirmRkey reply retry negative others tokens) book = fold learns book (token_keys on table others tokens)
learns_message on table slot (AddKeys reply link count keys) book = fold learns book (filter_map (new_key on (link_or_none slot table) book) (take count keys))
learns_message on table slot _ book = book

-- it forgets the RMBs of the keys that it knows
-- RFC 7609, 3.3: DELETE RKEY
abbrev pub forgets : LinkId → LlcMessage → List Key → List Key
forgets on m book = filter (λ k. not (has k.rmb (flat_map (λ key. rmbs_bound key on book) (deleted m)))) book

-- what a step of the flows does to what is known
-- RFC 7609, 3.3
abbrev pub book_step : LinkId → List Known → LlcMessage → FlowStep → List Key → List Key
book_step on table m Learn book = learns_message on table on.slot m book
book_step on table m AskLink book = learns_message on table (named_slot m on.slot) m book
book_step on table m (ReplyKeys true) book = learns_message on table (named_slot m on.slot) m book
book_step on table m Forget book = forgets on m book
book_step on table m _ book = book

-- what an act does to it
-- ours: a case for each act
abbrev pub book_act : List Known → Option Act → List Key → List Key
book_act table None book = book
book_act table (Some act) book = book_step act.link table act.message act.step book

-- the side takes an Accept or a Confirm of first contact
-- RFC 7609, 3.5: an offer tells a key
abbrev pub book_clc : Side → Event → Reply → List Entry → List Key → List Key
book_clc A (ClcEvent s B) (Sent ConfirmSent) past book = learns_offer (offered B s past) book
book_clc B (ClcEvent s A) (Sent LinkSent) past book = learns_offer (offered A s past) book
book_clc x _ _ past book = book

-- what a side has learnt after a history
-- ours: a state after a history
abbrev pub book_of : Side → List Entry → List Key
book_of x [] = []
book_of x (e ∷ older) = if group_of x (e ∷ older) == 0 then [] else book_clc x e.event e.reply older (book_act (table_of x older) (act_in x e older) (book_of x older))

-- where a key was bound last: its RMB, and the lendings that had begun by then
-- ours: what a late write under an old key could meet
pub record Binding : Type 0 where
  pub rmb : ℕ
  pub begun : List Lending

-- the binding of a key among these
-- ours: what a late write under an old key could meet
abbrev pub binding_in : ℕ → List Key → List Lending → Option Binding
binding_in key keys begun = option_map (λ k. let b : Binding = record { rmb = k.rmb; begun = begun } in b) (find (λ k. k.key == key) keys)

-- where a key was bound last in a history
-- ours: what a late write under an old key could meet
abbrev pub last_binding : Side → ℕ → List Entry → Option Binding
last_binding x key [] = None
last_binding x key (e ∷ older) = option_or (binding_in key (keys_of x (e ∷ older)).keys (lendings x (e ∷ older))) (last_binding x key older)

-- the lendings that must be done with where a key is bound: those of the RMB to which it was bound last, where that was another
-- ours: RFC 7609, 4.4.2, for keys
abbrev pub owing : Key → Option Binding → List Lending
owing k None = []
owing k (Some b) = filter (λ l. (l.place.rmb == b.rmb) && not (b.rmb == k.rmb)) b.begun

-- the law of the keys that an entry binds
-- ours: RFC 7609, 4.4.2, for keys
abbrev pub IsRebound : Side → List Entry → Key → Type 0
IsRebound x past k = All (λ l. IsTrue (is_done_with x l past)) (owing k (last_binding x k.key past))

-- each key after an entry may be bound so
-- ours: RFC 7609, 4.4.2, for keys
abbrev pub AreBound : Side → Entry → List Entry → Type 0
AreBound x e past = All (IsRebound x past) (keys_of x (e ∷ past)).keys

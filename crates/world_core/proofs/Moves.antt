-- What an entry makes of the link and of a socket, where it is known what it does.
-- Each record says of one entry how far it moves the link, or a socket; an entry that moves nothing shows the same.
use Rattle.std.proofs.Common.{◌≡◌, ap, arith, inl, inr, refl, sym, ◌∙◌}
use Rattle.pipe_model.specs.Keys.{by_post as keys_by_post, Keys, book_act, book_clc, book_of, by_act, if_group, keys_of}
use Rattle.std.proofs.lemmas.Bool.{eqb-false, ne_eqb}
use Rattle.std.proofs.lemmas.List.{append-nil}
use Rattle.std.proofs.lemmas.List.Elements.{filter_map-append}
use Rattle.std.specs.Prelude.{length, Bool, List, None, [], drop, false, filter, filter_map, fold, if◌then◌else◌, is_some, not, option_and_then, true, ℕ, ◌&&◌, ◌++◌, ◌+◌, ◌==◌, ◌||◌, ◌∷◌, ◌⊎◌}
use Rattle.pipe_model.specs.declared.post.Placed.{Placed}
use Rattle.smc_num.specs.Keys.{Key}
use Rattle.smc_num.specs.declared.LinkId.{LinkId}
use Rattle.std.specs.Option.{option_or}
use Rattle.world_core.specs.Views.{ShowsSame}
use Rattle.smc_num.specs.declared.Side.TheVariants.{A, B}
use Rattle.smc_num.specs.Links.{link_at}
use Rattle.pipe_model.specs.declared.post.Post.{Post}
use Rattle.pipe_model.specs.Lending.{lendings, lends}
use Rattle.pipe_model.specs.Words.{passes}
use Rattle.clc_wire.specs.declared.message.ClcMessage.{ClcMessage}
use Rattle.pipe_model.specs.declared.entry.Entry.{Entry}
use Rattle.pipe_model.specs.Wires.{cuts, if_latest, is_cut, is_on, leaves, unlanded}
use Rattle.pipe_model.specs.declared.setup.Setup.{Setup}
use Rattle.pipe_model.specs.History.{next_number, numbered, offer_in, offered}
use Rattle.world_core.specs.Sockets.{AreOffers, IsWorld, Socket, StandsAt, early_at, offered_at, opened_at, untaken_at, up_at}
use Rattle.pipe_model.specs.Posts.{begins_group_in, groups_begun}
use Rattle.pipe_model.specs.Fallback.{clc_in, opens, is_opened, is_raw, raws, takes_clc, untaken}
use Rattle.pipe_model.specs.Connections.{EndState, comes_up, after_event, after_loss, confirmed_by, early_state, group_on, is_up, up_by}
use Rattle.world_core.specs.OneLink.{Asking, Begun, IsAtStage, LiveAtA, LiveAtBoth, Made, NoLink, Stage, book_at, fabric_at, groups_at, keys_at, llc_in, llc_waiting, posted_llc, the_link, waiting_at}
use Rattle.pipe_model.specs.Fabric.{Act, Fabric, act_in, after, fabric, flow_of, group_of, is_latest, loses_group_with, path_up, peer, sets_path, table_of}
use Rattle.smc_num.specs.declared.Side.{Side}
use Rattle.smc_num.specs.Names.{head, same_link}
use Rattle.world_core.proofs.Plain.{and-false}

-- what an entry does to the link
pub record MovesLink (setup : Setup) (d : Entry) (older : List Entry) (from to : Stage) : Type 0 where
  pub path : sets_path 1 d.event d.reply true ≡ true
  pub cuts_none : cuts the_link d.event d.reply older ≡ false
  pub groups : groups_at from + length (filter begins_group_in d.posts) ≡ groups_at to
  pub fabric_is : after d.event d.reply d.posts older (fabric_at from) ≡ fabric_at to
  pub keys : (x : Side) → if_group (peer x (fabric_at to)).group (fold (keys_by_post x (peer x (fabric_at to)).table) (by_act x (peer x (fabric_at from)).flow (peer x (fabric_at to)).table (act_in x d older) (keys_at x from)) d.posts) ≡ keys_at x to
  pub book : (x : Side) → (if (peer x (fabric_at to)).group == 0 then [] else book_clc x d.event d.reply older (book_act (peer x (fabric_at from)).table (act_in x d older) (book_at x from))) ≡ book_at x to
  pub waiting : (x : Side) → filter_map llc_in (drop (if_latest the_link older (leaves x 1 d.event d.reply)) (unlanded the_link x older)) ++ posted_llc the_link x (next_number older) 1 d.posts ≡ waiting_at setup x to
  pub elsewhere : (link : LinkId) (x : Side) → same_link link the_link ≡ false → filter_map llc_in (drop (if_latest link older (leaves x link.slot d.event d.reply)) (unlanded link x older)) ++ posted_llc link x (next_number older) 1 d.posts ≡ []

pub link-moves : (setup : Setup) (d : Entry) (older : List Entry) (from to : Stage) → MovesLink setup d older from to → IsAtStage setup from older → IsAtStage setup to (d ∷ older)
link-moves setup d older from to m at = record {
  path = ap (λ b. sets_path 1 d.event d.reply b) at.path ∙ m.path;
  uncut =
      ap (λ b. (b || ((is_latest the_link (d ∷ older) && not (is_latest the_link older)) && not (path_up 1 older))) || is_cut the_link older) m.cuts_none
      ∙ (ap (λ b. ((is_latest the_link (d ∷ older) && not (is_latest the_link older)) && not b) || is_cut the_link older) at.path
      ∙ (ap (λ b. b || is_cut the_link older) (and-false (is_latest the_link (d ∷ older) && not (is_latest the_link older))) ∙ at.uncut));
  groups = ap (λ n. n + length (filter begins_group_in d.posts)) at.groups ∙ m.groups;
  fabric_is = now;
  keys = λ x.
      ap (λ (f : Fabric). if_group (peer x f).group (fold (keys_by_post x (peer x f).table) (by_act x (flow_of x older) (peer x f).table (act_in x d older) (keys_of x older)) d.posts)) now
      ∙ (ap (λ (f : Fabric). if_group (peer x (fabric_at to)).group (fold (keys_by_post x (peer x (fabric_at to)).table) (by_act x (peer x f).flow (peer x (fabric_at to)).table (act_in x d older) (keys_of x older)) d.posts)) at.fabric_is
      ∙ (ap (λ (ks : Keys). if_group (peer x (fabric_at to)).group (fold (keys_by_post x (peer x (fabric_at to)).table) (by_act x (peer x (fabric_at from)).flow (peer x (fabric_at to)).table (act_in x d older) ks) d.posts)) (at.keys x)
      ∙ m.keys x));
  book = λ x.
      ap (λ (f : Fabric). if (peer x f).group == 0 then [] else book_clc x d.event d.reply older (book_act (table_of x older) (act_in x d older) (book_of x older))) now
      ∙ (ap (λ (f : Fabric). if (peer x (fabric_at to)).group == 0 then [] else book_clc x d.event d.reply older (book_act (peer x f).table (act_in x d older) (book_of x older))) at.fabric_is
      ∙ (ap (λ (b : List Key). if (peer x (fabric_at to)).group == 0 then [] else book_clc x d.event d.reply older (book_act (peer x (fabric_at from)).table (act_in x d older) b)) (at.book x)
      ∙ m.book x));
  waiting = λ x. filter_map-append llc_in (drop (if_latest the_link older (leaves x 1 d.event d.reply)) (unlanded the_link x older)) (filter (λ c. is_on the_link x c.post) (numbered (next_number older) 1 d.posts)) ∙ m.waiting x;
  elsewhere = λ link x apart. filter_map-append llc_in (drop (if_latest link older (leaves x link.slot d.event d.reply)) (unlanded link x older)) (filter (λ c. is_on link x c.post) (numbered (next_number older) 1 d.posts)) ∙ m.elsewhere link x apart;
}
  where
    now : fabric (d ∷ older) ≡ fabric_at to
    now = ap (λ f. after d.event d.reply d.posts older f) at.fabric_is ∙ m.fabric_is

-- no group ends
no-loss : (g a b : ℕ) → (a ≡ 0) ⊎ (a ≡ b) → (not (g == 0) && ((a == g) && not (b == g))) ≡ false
no-loss g a b (inl e) = ap (λ n. not (g == 0) && ((n == g) && not (b == g))) e ∙ by_test (g == 0) refl
  where
    by_test : (c : Bool) → (g == 0) ≡ c → (not c && ((0 == g) && not (b == g))) ≡ false
    by_test true f = refl
    by_test false f = ap (λ c. c && not (b == g)) (ne_eqb 0 g (λ h. eqb-false g 0 f (sym h)))
no-loss g a b (inr e) = ap (λ n. not (g == 0) && ((n == g) && not (b == g))) e ∙ same (not (g == 0)) (b == g)
  where
    same : (d c : Bool) → (d && (c && not c)) ≡ false
    same true true = refl
    same true false = refl
    same false c = refl

-- a side of the fabric keeps its group, or had none
abbrev pub KeepsGroups : Stage → Stage → Type 0
KeepsGroups from to = (x : Side) → ((peer x (fabric_at from)).group ≡ 0) ⊎ ((peer x (fabric_at from)).group ≡ (peer x (fabric_at to)).group)

pub keeps-group : (setup : Setup) (d : Entry) (older : List Entry) (from to : Stage) → IsAtStage setup from older → IsAtStage setup to (d ∷ older) → KeepsGroups from to → (x : Side) (g : ℕ) → loses_group_with x g d older ≡ false
keeps-group setup d older from to was now keeps x g =
    ap (λ (f : Fabric). not (g == 0) && (((peer x f).group == g) && not (group_of x (d ∷ older) == g))) was.fabric_is
    ∙ (ap (λ (f : Fabric). not (g == 0) && (((peer x (fabric_at from)).group == g) && not ((peer x f).group == g))) now.fabric_is
    ∙ no-loss g (peer x (fabric_at from)).group (peer x (fabric_at to)).group (keeps x))

-- what an entry does to a socket
pub record MovesSocket (setup : Setup) (d : Entry) (older : List Entry) (s : ℕ) (from to : Socket) : Type 0 where
  pub up : (x : Side) → (is_some (comes_up x s d older) || up_at from x) ≡ up_at to x
  pub early : (x : Side) → after_event x s d.event d.reply (early_at from x) ≡ early_at to x
  pub offer : (x : Side) → option_or (head (filter_map (offer_in x s) d.posts)) (offered_at from x) ≡ offered_at to x
  pub messages : (x : Side) → drop (if takes_clc x s d.event d.reply then 1 else 0) (untaken_at setup from x) ++ filter_map (clc_in x s) d.posts ≡ untaken_at setup to x
  pub opened : (opens s d.event d.reply || opened_at from) ≡ opened_at to
  pub raw : raws s d.event d.reply ≡ false
  pub offers : AreOffers setup from → AreOffers setup to

pub socket-moves : (setup : Setup) (d : Entry) (older : List Entry) (s : ℕ) (from to : Socket) → ((x : Side) (g : ℕ) → loses_group_with x g d older ≡ false) → MovesSocket setup d older s from to → StandsAt setup from s older → StandsAt setup to s (d ∷ older)
socket-moves setup d older s from to keeps m at = record {
  up = λ x. ap (λ b. is_some (comes_up x s d older) || b) (at.up x) ∙ m.up x;
  early = λ x.
      ap (λ b. after_loss b (group_on s older) (after_event x s d.event d.reply (early_state x s older))) (keeps x (group_on s older))
      ∙ (ap (λ state. after_event x s d.event d.reply state) (at.early x) ∙ m.early x);
  offer = λ x. ap (λ o. option_or (head (filter_map (offer_in x s) d.posts)) o) (at.offer x) ∙ m.offer x;
  messages = λ x. ap (λ (ms : List ClcMessage). drop (if takes_clc x s d.event d.reply then 1 else 0) ms ++ filter_map (clc_in x s) d.posts) (at.messages x) ∙ m.messages x;
  opened = ap (λ b. opens s d.event d.reply || b) at.opened ∙ m.opened;
  raw = ap (λ b. b || is_raw s older) m.raw ∙ at.raw;
  offers = m.offers at.offers;
}

-- what is known of an entry that changes nothing
pub record IsQuiet (d : Entry) (older : List Entry) : Type 0 where
  pub path : (b : Bool) → sets_path 1 d.event d.reply b ≡ b
  pub cuts_none : (link : LinkId) → cuts link d.event d.reply older ≡ false
  pub posts : d.posts ≡ []
  pub fabric_is : after d.event d.reply [] older (fabric older) ≡ fabric older
  pub acts : (x : Side) → act_in x d older ≡ None
  pub up : (x : Side) (s : ℕ) → up_by x s d.event d.reply older ≡ None
  pub early : (x : Side) (s : ℕ) (state : EndState) → after_event x s d.event d.reply state ≡ state
  pub takes : (x : Side) (s : ℕ) → takes_clc x s d.event d.reply ≡ false
  pub opened : (s : ℕ) → opens s d.event d.reply ≡ false
  pub raw : (s : ℕ) → raws s d.event d.reply ≡ false
  pub book : (x : Side) (b : List Key) → book_clc x d.event d.reply older b ≡ b
  pub waiting : (link : LinkId) (x : Side) → filter_map llc_in (drop (if_latest link older (leaves x link.slot d.event d.reply)) (unlanded link x older)) ≡ llc_waiting link x older

-- keys and what was learnt go with a group
pub has-group : (x : Side) (stage : Stage) → if_group (peer x (fabric_at stage)).group (keys_at x stage) ≡ keys_at x stage
has-group A NoLink = refl
has-group A (Begun s) = refl
has-group A (Made s) = refl
has-group A (Asking s qp) = refl
has-group A (LiveAtA s qp) = refl
has-group A (LiveAtBoth s) = refl
has-group B NoLink = refl
has-group B (Begun s) = refl
has-group B (Made s) = refl
has-group B (Asking s qp) = refl
has-group B (LiveAtA s qp) = refl
has-group B (LiveAtBoth s) = refl

pub has-book : (x : Side) (stage : Stage) → (if (peer x (fabric_at stage)).group == 0 then [] else book_at x stage) ≡ book_at x stage
has-book A NoLink = refl
has-book A (Begun s) = refl
has-book A (Made s) = refl
has-book A (Asking s qp) = refl
has-book A (LiveAtA s qp) = refl
has-book A (LiveAtBoth s) = refl
has-book B NoLink = refl
has-book B (Begun s) = refl
has-book B (Made s) = refl
has-book B (Asking s qp) = refl
has-book B (LiveAtA s qp) = refl
has-book B (LiveAtBoth s) = refl

not-new : (b c : Bool) → ((b && not b) && c) ≡ false
not-new true c = refl
not-new false c = refl

pub shows-quiet : (setup : Setup) (stage : Stage) (d : Entry) (older : List Entry) → IsAtStage setup stage older → IsQuiet d older → ShowsSame (d ∷ older) older
shows-quiet setup stage d older at q = record {
  path = q.path (path_up 1 older);
  cut = λ link.
      ap (λ b. (b || ((is_latest link (d ∷ older) && not (is_latest link older)) && not (path_up link.slot older))) || is_cut link older) (q.cuts_none link)
      ∙ (ap (λ (f : Fabric). ((passes (same_link link) (link_at link.slot f.latest) && not (is_latest link older)) && not (path_up link.slot older)) || is_cut link older) same
      ∙ ap (λ b. b || is_cut link older) (not-new (is_latest link older) (not (path_up link.slot older))));
  groups = ap (λ (ps : List Post). groups_begun older + length (filter begins_group_in ps)) q.posts ∙ nothing (groups_begun older);
  fabric_is = same;
  offer = λ x s. ap (λ (ps : List Post). option_or (head (filter_map (offer_in x s) ps)) (offered x s older)) q.posts;
  messages = λ x s.
      ap (λ (ps : List Post). drop (if takes_clc x s d.event d.reply then 1 else 0) (untaken x s older) ++ filter_map (clc_in x s) ps) q.posts
      ∙ (ap (λ b. drop (if b then 1 else 0) (untaken x s older) ++ []) (q.takes x s) ∙ append-nil (untaken x s older));
  lent = λ x. ap (λ (ps : List Post). filter_map (lends x) ps ++ lendings x older) q.posts;
  keys = λ x.
      ap (λ (f : Fabric). if_group (peer x f).group (fold (keys_by_post x (peer x f).table) (by_act x (flow_of x older) (peer x f).table (act_in x d older) (keys_of x older)) d.posts)) same
      ∙ (ap (λ (ps : List Post). if_group (group_of x older) (fold (keys_by_post x (table_of x older)) (by_act x (flow_of x older) (table_of x older) (act_in x d older) (keys_of x older)) ps)) q.posts
      ∙ (ap (λ a. if_group (group_of x older) (by_act x (flow_of x older) (table_of x older) a (keys_of x older))) (q.acts x)
      ∙ (ap (λ (f : Fabric). if_group (peer x f).group (keys_of x older)) at.fabric_is
      ∙ (ap (λ ks. if_group (peer x (fabric_at stage)).group ks) (at.keys x) ∙ (has-group x stage ∙ sym (at.keys x))))));
  book = λ x.
      ap (λ (f : Fabric). if (peer x f).group == 0 then [] else book_clc x d.event d.reply older (book_act (table_of x older) (act_in x d older) (book_of x older))) same
      ∙ (ap (λ b. if group_of x older == 0 then [] else b) (q.book x (book_act (table_of x older) (act_in x d older) (book_of x older)))
      ∙ (ap (λ a. if group_of x older == 0 then [] else book_act (table_of x older) a (book_of x older)) (q.acts x)
      ∙ (ap (λ (f : Fabric). if (peer x f).group == 0 then [] else book_of x older) at.fabric_is
      ∙ (ap (λ (b : List Key). if (peer x (fabric_at stage)).group == 0 then [] else b) (at.book x) ∙ (has-book x stage ∙ sym (at.book x))))));
  up = λ x s.
      ap (λ o. is_some (option_or o (option_and_then (λ act. confirmed_by (offered B s older) act.link act.step) (act_in x d older))) || is_up x s older) (q.up x s)
      ∙ ap (λ a. is_some (option_and_then (λ (act : Act). confirmed_by (offered B s older) act.link act.step) a) || is_up x s older) (q.acts x);
  early = λ x s.
      ap (λ (f : Fabric). after_loss (not (group_on s older == 0) && ((group_of x older == group_on s older) && not ((peer x f).group == group_on s older))) (group_on s older) (after_event x s d.event d.reply (early_state x s older))) same
      ∙ (ap (λ b. after_loss b (group_on s older) (after_event x s d.event d.reply (early_state x s older))) (no-loss (group_on s older) (group_of x older) (group_of x older) (inr refl))
      ∙ q.early x s (early_state x s older));
  raw = λ s. ap (λ b. b || is_raw s older) (q.raw s);
  opened = λ s. ap (λ b. b || is_opened s older) (q.opened s);
  waiting = λ link x.
      ap (λ (ps : List Post). filter_map llc_in (drop (if_latest link older (leaves x link.slot d.event d.reply)) (unlanded link x older) ++ filter (λ c. is_on link x c.post) (numbered (next_number older) 1 ps))) q.posts
      ∙ (ap (λ (cs : List Placed). filter_map llc_in cs) (append-nil (drop (if_latest link older (leaves x link.slot d.event d.reply)) (unlanded link x older))) ∙ q.waiting link x);
}
  where
    same : fabric (d ∷ older) ≡ fabric older
    same = ap (λ (ps : List Post). after d.event d.reply ps older (fabric older)) q.posts ∙ q.fabric_is

    nothing : (n : ℕ) → n + 0 ≡ n
    nothing n = omega arith

-- what shows the same holds the same
pub link-same : (setup : Setup) (stage : Stage) (one two : List Entry) → ShowsSame one two → IsAtStage setup stage two → IsAtStage setup stage one
link-same setup stage one two v at = record {
  path = v.path ∙ at.path;
  uncut = v.cut the_link ∙ at.uncut;
  groups = v.groups ∙ at.groups;
  fabric_is = v.fabric_is ∙ at.fabric_is;
  keys = λ x. v.keys x ∙ at.keys x;
  book = λ x. v.book x ∙ at.book x;
  waiting = λ x. v.waiting the_link x ∙ at.waiting x;
  elsewhere = λ link x apart. v.waiting link x ∙ at.elsewhere link x apart;
}

pub socket-same : (setup : Setup) (k : Socket) (s : ℕ) (one two : List Entry) → ShowsSame one two → StandsAt setup k s two → StandsAt setup k s one
socket-same setup k s one two v at = record {
  up = λ x. v.up x s ∙ at.up x;
  early = λ x. v.early x s ∙ at.early x;
  offer = λ x. v.offer x s ∙ at.offer x;
  messages = λ x. v.messages x s ∙ at.messages x;
  opened = v.opened s ∙ at.opened;
  raw = v.raw s ∙ at.raw;
  offers = at.offers;
}

pub world-same : (setup : Setup) (stage : Stage) (one two : List Entry) → ShowsSame one two → IsWorld setup stage two → IsWorld setup stage one
world-same setup stage one two v w = record {
  link = link-same setup stage one two v w.link;
  sockets = λ s. let h = w.sockets s in record { at = h.at; stands = socket-same setup h.at s one two v h.stands; suits_is = h.suits_is };
  unlent = λ x none. v.lent x ∙ w.unlent x none;
}

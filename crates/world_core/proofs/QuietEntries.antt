-- An entry that moves neither links nor sockets nor lendings: all that a side's manager keeps stays, its ends apart, and the items
-- that it gives a connection are its deeds.
use Rattle.std.proofs.Common.{◌≡◌, ◌∙◌, ℕ, ◌+◌, ◌==◌, ◌&&◌, not, Bool, true, false, cond, if◌then◌else◌, List, [], ◌∷◌, ◌++◌, map, filter, filter_map, refl, ap, arith, append-nil}
use Rattle.std.specs.Prelude.{None, option_map, option_and_then, option_to_list, unwrap_or}
use Rattle.std.specs.Option.{option_or}
use Rattle.smc_num.specs.declared.Side.{Side}
use Rattle.smc_num.specs.declared.Side.TheVariants.{A, B}
use Rattle.smc_num.specs.declared.LinkId.{LinkId}
use Rattle.smc_num.specs.Names.{at_side, other, head, up_to}
use Rattle.pipe_model.specs.declared.setup.Setup.{Setup}
use Rattle.pipe_model.specs.declared.event.Event.{Event}
use Rattle.pipe_model.specs.declared.event.Event.TheVariants.{Grow}
use Rattle.pipe_model.specs.declared.reply.Reply.{Reply}
use Rattle.pipe_model.specs.declared.reply.Reply.TheVariants.{Sent}
use Rattle.pipe_model.specs.declared.reply.SentKind.TheVariants.{AddLink as AddLinkSent}
use Rattle.pipe_model.specs.declared.post.Post.{Post}
use Rattle.pipe_model.specs.declared.post.Post.TheVariants.{Write, Cdc, Llc, Clc}
use Rattle.pipe_model.specs.declared.entry.Entry.{Entry}
use Rattle.pipe_model.specs.History.{Offered, offered}
use Rattle.pipe_model.specs.Fabric.{Act, fabric, peer, group_of, table_of, act_in, loses_group_with}
use Rattle.pipe_model.specs.Pipe.{Item, Up, GroupEnd, half, pipe}
use Rattle.pipe_model.specs.Connections.{IsUp, group_on, is_up, early_state, end_state, up_by, confirmed_by, fate_of, fates, ups, group_end, deeds, items, part}
use Rattle.pipe_model.specs.Lending.{Lending, lends, lent, returns, leaves_handshake, terms_of}
use Rattle.pipe_model.specs.Messages.{asked_pair, pair_in, pair_number, first_pair, act_pair, new_pair, serial, pair_on}
use Rattle.side_core.specs.Desk.{most_slots}
use Rattle.world_core.specs.OneLink.{Stage, NoLink, Begun, Made, Asking, LiveAtA, LiveAtBoth, fabric_at}
use Rattle.world_core.specs.Sockets.{IsWorld}
use Rattle.world_core.specs.Views.{is_data, AreData, ShowsSame}
use Rattle.world_core.specs.Wired.{EachItem, keeps_open}
use Rattle.world_core.specs.Managers.{begins_on, first_on, end_of, awaits_confirm}
use Rattle.world_core.proofs.DataPosts.{by-data, shows-plus, unseen-filter_map, no-lending}
use Rattle.world_core.proofs.Moves.{IsQuiet, shows-quiet}
use Rattle.world_core.proofs.OpenEnds.{stays-out}
use Rattle.world_core.proofs.EntryItems.{below, items-are, same-items, below-ups}
use Rattle.world_core.proofs.SameManagers.{SameDesk, SameSocket}
use Rattle.world_core.proofs.Plain.{and-false, none-asked}

-- an entry without its posts
abbrev pub bare : Entry → Entry
bare e = record e { posts = [] }

-- that an entry, in a world that has come so far, moves nothing but ends, and no end is closed by it
pub record IsCalm (setup : Setup) (payload : List ℕ) (stage : Stage) (e : Entry) (past : List Entry) : Type 0 where
  pub world : IsWorld setup stage past
  pub quiet : IsQuiet (bare e) past
  pub of_pipes : AreData e.posts
  pub stays : (x : Side) (s : ℕ) → leaves_handshake x s e.event e.reply ≡ false
  pub open_items : (group s : ℕ) → EachItem keeps_open (part payload group s (e ∷ past))

-- what shows the same as what shows the same
pub shows-as : (one two three : List Entry) → ShowsSame one two → ShowsSame two three → ShowsSame one three
shows-as one two three v w = record {
  path = v.path ∙ w.path;
  cut = λ link. v.cut link ∙ w.cut link;
  groups = v.groups ∙ w.groups;
  fabric_is = v.fabric_is ∙ w.fabric_is;
  offer = λ x s. v.offer x s ∙ w.offer x s;
  messages = λ x s. v.messages x s ∙ w.messages x s;
  lent = λ x. v.lent x ∙ w.lent x;
  keys = λ x. v.keys x ∙ w.keys x;
  book = λ x. v.book x ∙ w.book x;
  up = λ x s. v.up x s ∙ w.up x s;
  early = λ x s. v.early x s ∙ w.early x s;
  raw = λ s. v.raw s ∙ w.raw s;
  opened = λ s. v.opened s ∙ w.opened s;
  waiting = λ link x. v.waiting link x ∙ w.waiting link x;
}

-- posts of the pipes make no queue pair, lend nothing and begin no group
no-asked : (event : Event) (reply : Reply) (p : Post) → is_data p ≡ true → asked_pair event reply p ≡ 0
no-asked Grow (Sent AddLinkSent) (Write from link key address len) e = refl
no-asked Grow (Sent AddLinkSent) (Cdc from link m) e = refl
no-asked Grow (Sent AddLinkSent) (Llc from link m) e = cc
no-asked Grow (Sent AddLinkSent) (Clc from s link m) e = cc
no-asked event reply p e = refl

no-pair : (x : Side) (p : Post) → is_data p ≡ true → pair_in x p ≡ 0
no-pair A = by-data (λ p. pair_in A p ≡ 0) (λ from link key address len. refl) (λ from link m. refl)
no-pair B = by-data (λ p. pair_in B p ≡ 0) (λ from link key address len. refl) (λ from link m. refl)

pub data-pair : (x : Side) (event : Event) (reply : Reply) (ps : List Post) → AreData ps → first_pair x event reply ps ≡ 0
data-pair x event reply [] a = refl
data-pair x event reply (p ∷ ps) a =
    ap (λ n. n + at_side x 0 (asked_pair event reply p)) (no-pair x p a.0) ∙ ap (λ n. 0 + n) (none-asked x (asked_pair event reply p) (no-asked event reply p a.0))

no-beginning : (x : Side) (p : Post) → is_data p ≡ true → begins_on x p ≡ None
no-beginning A = by-data (λ p. begins_on A p ≡ None) (λ from link key address len. refl) (λ from link m. refl)
no-beginning B = by-data (λ p. begins_on B p ≡ None) (λ from link key address len. refl) (λ from link m. refl)

-- of lendings that do not end all stay
pub all-stay : (f : Lending → Bool) (ls : List Lending) → ((l : Lending) → f l ≡ true) → filter f ls ≡ ls
all-stay f [] e = refl
all-stay f (l ∷ ls) e = ap (λ b. cond b (l ∷ filter f ls) (filter f ls)) (e l) ∙ ap (λ ks. l ∷ ks) (all-stay f ls e)

-- the link's fate is no news where it stays as it is
pub one-fate : (x : Side) (g : ℕ) (stage : Stage) → filter_map (fate_of x g (peer x (fabric_at stage)).table) (peer x (fabric_at stage)).table ≡ []
one-fate A g NoLink = refl
one-fate B g NoLink = refl
one-fate A g (Begun s) = refl
one-fate B g (Begun s) = refl
one-fate A g (Made s) = rw (and-false (1 == g)) refl
one-fate B g (Made s) = rw (and-false (1 == g)) refl
one-fate A g (Asking s qp) = rw (and-false (1 == g)) refl
one-fate B g (Asking s qp) = rw (and-false (1 == g)) refl
one-fate A g (LiveAtA s qp) = rw (and-false (1 == g)) refl
one-fate B g (LiveAtA s qp) = rw (and-false (1 == g)) refl
one-fate A g (LiveAtBoth s) = rw (and-false (1 == g)) refl
one-fate B g (LiveAtBoth s) = rw (and-false (1 == g)) refl

pub same-group : (g a b : ℕ) → b ≡ a → (not (g == 0) && ((a == g) && not (b == g))) ≡ false
same-group g a b e = ap (λ n. not (g == 0) && ((a == g) && not (n == g))) e ∙ never (not (g == 0)) (a == g)
  where
    never : (d c : Bool) → (d && (c && not c)) ≡ false
    never true true = refl
    never true false = refl
    never false c = refl

-- the items that a quiet entry gives are its deeds
module _ (payload : List ℕ) (stage : Stage) (d : Entry) (past : List Entry) (was : fabric past ≡ fabric_at stage) (now : fabric (d ∷ past) ≡ fabric past)
    (acts : (x : Side) → act_in x d past ≡ None) (up : (x : Side) (s : ℕ) → up_by x s d.event d.reply past ≡ None) where
  no-ups : (x : Side) (s : ℕ) → ups x s d past ≡ []
  no-ups x s =
      ap (λ o. option_to_list (option_map (Up x) (option_or o (option_and_then (λ (act : Act). confirmed_by (offered B s past) act.link act.step) (act_in x d past))))) (up x s)
      ∙ ap (λ a. option_to_list (option_map (Up x) (option_and_then (λ (act : Act). confirmed_by (offered B s past) act.link act.step) a))) (acts x)

  pub no-loss : (x : Side) (g : ℕ) → loses_group_with x g d past ≡ false
  no-loss x g = same-group g (group_of x past) (group_of x (d ∷ past)) (ap (λ f. (peer x f).group) now)

  no-end : (x : Side) (g : ℕ) → group_end x g d past ≡ []
  no-end x g = ap (λ b. if b then GroupEnd x ∷ [] else []) (no-loss x g)

  no-fates : (x : Side) (g : ℕ) → fates x g d past ≡ []
  no-fates x g =
      ap (λ f. filter_map (fate_of x g (table_of x past)) (peer x f).table) now
      ∙ (ap (λ f. filter_map (fate_of x g (peer x f).table) (peer x f).table) was ∙ one-fate x g stage)

  no-below : (g s : ℕ) → below g s d past ≡ []
  no-below g s = below-ups g s d past [] (ap (λ (us : List Item). us ++ ups B s d past) (no-ups A s) ∙ no-ups B s) (λ x. no-end x g) (λ x. no-fates x g)

  pub only-deeds : (g s : ℕ) → items payload g s d past ≡ deeds payload s d.event d.reply past
  only-deeds g s = items-are payload g s d past ∙ (ap (λ (is : List Item). deeds payload s d.event d.reply past ++ is) (no-below g s) ∙ append-nil (deeds payload s d.event d.reply past))

module _ (setup : Setup) (payload : List ℕ) (stage : Stage) (e : Entry) (past : List Entry) (calm : IsCalm setup payload stage e past) where
  was-at : fabric past ≡ fabric_at stage
  was-at = let w = calm.world in let l = w.link in l.fabric_is

  pub shows-bare : ShowsSame (bare e ∷ past) past
  shows-bare = let w = calm.world in shows-quiet setup stage (bare e) past w.link calm.quiet

  pub shows-now : ShowsSame (e ∷ past) past
  shows-now = shows-as (e ∷ past) (bare e ∷ past) past (shows-plus (bare e) e.posts past calm.of_pipes) shows-bare

  acts-none : (x : Side) → act_in x (bare e) past ≡ None
  acts-none x = let q = calm.quiet in q.acts x

  pub no-new-pair : (x : Side) → new_pair x e past ≡ 0
  no-new-pair x = ap (λ a. act_pair a + first_pair x e.event e.reply e.posts) (acts-none x) ∙ ap (λ n. 0 + n) (data-pair x e.event e.reply e.posts calm.of_pipes)

  returns-none : (x : Side) (l : Lending) → returns setup payload x e past l ≡ false
  returns-none x l =
      stays-out setup payload e past x l (calm.stays x l.s)
      (let v = shows-now in same-group l.group (group_of x past) (group_of x (e ∷ past)) (ap (λ f. (peer x f).group) v.fabric_is)) (calm.open_items l.group l.s)

  pub lent-stays : (x : Side) → lent setup payload x (e ∷ past) ≡ lent setup payload x past
  lent-stays x =
      ap (λ (ls : List Lending). ls ++ filter (λ l. not (returns setup payload x e past l)) (lent setup payload x past)) (unseen-filter_map (lends x) (no-lending x) [] e.posts calm.of_pipes)
      ∙ all-stay (λ l. not (returns setup payload x e past l)) (lent setup payload x past) (λ l. ap (λ b. not b) (returns-none x l))

  pub desk-stays : (x : Side) → SameDesk setup payload x (e ∷ past) past
  desk-stays x = let v = shows-now in record {
    fabric_is = v.fabric_is;
    groups = v.groups;
    pairs = ap (λ n. map (λ k. if n == k then pair_number (serial x past + 1) k else pair_on x k past) (up_to most_slots)) (no-new-pair x);
    serial_is = ap (λ n. serial x past + (if n == 0 then 0 else 1)) (no-new-pair x) ∙ plus-none (serial x past);
    keys = v.keys x;
    book = v.book x;
    all = v.lent x;
    lent_is = lent-stays x;
    first = ap (λ (ns : List ℕ). unwrap_or (head ns) (first_on x past)) (unseen-filter_map (begins_on x) (no-beginning x) [] e.posts calm.of_pipes);
  }
    where
      plus-none : (n : ℕ) → n + 0 ≡ n
      plus-none n = omega arith

  pub socket-stays : (x : Side) (s : ℕ) → SameSocket x (e ∷ past) past s
  socket-stays x s = let v = shows-now in record {
    raw = v.raw s;
    state = state-now;
    route = record {
      up = v.up x s;
      link = ap (λ o. option_map (λ (p : Offered). p.link) o) (v.offer B s);
      heard = ap (λ a. if awaits_confirm a then None else option_map (λ (p : Offered). p.offer) (offered (other x) s (e ∷ past))) state-now
          ∙ ap (λ o. if awaits_confirm (end_state x s past) then None else option_map (λ (p : Offered). p.offer) o) (v.offer (other x) s);
    };
  }
    where
      state-now : end_state x s (e ∷ past) ≡ end_state x s past
      state-now = let v = shows-now in ap (λ b. if b then IsUp else early_state x s (e ∷ past)) (v.up x s) ∙ ap (λ a. if is_up x s past then IsUp else a) (v.early x s)

  -- the items that it gives
  pub items-now : (g s : ℕ) → items payload g s e past ≡ deeds payload s e.event e.reply past
  items-now g s =
      let p = shows-plus (bare e) e.posts past calm.of_pipes in
      let v = shows-bare in
      let q = calm.quiet in
      same-items payload g s e (bare e) past refl refl p.fabric_is ∙ only-deeds payload stage (bare e) past was-at v.fabric_is q.acts q.up g s

  -- and as the pipes see it
  pub bare-items : (g s : ℕ) → items payload g s (record { actor = 0; event = e.event; reply = e.reply; posts = [] }) past ≡ deeds payload s e.event e.reply past
  bare-items g s =
      let v = shows-bare in
      let q = calm.quiet in
      only-deeds payload stage (record { actor = 0; event = e.event; reply = e.reply; posts = [] }) past was-at v.fabric_is q.acts q.up g s

  pub group-stays : (s : ℕ) → group_on s (e ∷ past) ≡ group_on s past
  group-stays s = let v = shows-now in ap (λ o. unwrap_or (option_map (λ (link : LinkId). link.group) (option_map (λ (p : Offered). p.link) o)) 0) (v.offer B s)

  -- an end after it
  pub end-now : (x : Side) (s : ℕ) → end_of setup payload x s (e ∷ past) ≡ half x (pipe (terms_of setup) (deeds payload s e.event e.reply past ++ part payload (group_on s past) s past))
  end-now x s =
      ap (λ g. half x (pipe (terms_of setup) (part payload g s (e ∷ past)))) (group-stays s)
      ∙ ap (λ (is : List Item). half x (pipe (terms_of setup) (is ++ part payload (group_on s past) s past))) (items-now (group_on s past) s)

-- What the pipes post with an entry that moves ends alone is what the managers' ends post.
use Rattle.std.proofs.Common.{◌≡◌, ◌∙◌, ℕ, Bool, true, false, if◌then◌else◌, List, [], ◌∷◌, ◌++◌, flat_map, refl, ap, sym, append-nil}
use Rattle.std.specs.Prelude.{Option, Some, None, option_map, unwrap_or}
use Rattle.std.specs.Option.{option_or}
use Rattle.smc_num.specs.declared.Side.{Side}
use Rattle.smc_num.specs.declared.LinkId.{LinkId}
use Rattle.smc_num.specs.Names.{other, no_link}
use Rattle.smc_num.specs.Places.{rmb_at}
use Rattle.smc_num.specs.Keys.{Key, bound}
use Rattle.rmb_region.specs.Regions.{Buffer}
use Rattle.pipe_model.specs.declared.setup.Setup.{Setup}
use Rattle.pipe_model.specs.declared.event.Event.{Event}
use Rattle.pipe_model.specs.declared.reply.Reply.{Reply}
use Rattle.pipe_model.specs.declared.post.Post.{Post}
use Rattle.pipe_model.specs.declared.entry.Entry.{Entry}
use Rattle.pipe_model.specs.Words.{element_size}
use Rattle.pipe_model.specs.History.{offered}
use Rattle.pipe_model.specs.Ends.{Half, is_due, batch}
use Rattle.pipe_model.specs.Connections.{is_up, named_link}
use Rattle.pipe_model.specs.Lending.{Lending, lent}
use Rattle.pipe_model.specs.Keys.{Keys, keys_of, book_of, last_bound}
use Rattle.pipe_model.specs.Posts.{sent_posts, cdc_posts, connection_posts}
use Rattle.pipe_model.specs.Replies.{told}
use Rattle.pipe_model.specs.Lawful.{reply_of, posted, asked}
use Rattle.side_core.specs.Records.{Connection}
use Rattle.side_core.specs.Posting.{batch_posts}
use Rattle.side_core.specs.Acting.{key_to, due_from}
use Rattle.world_core.specs.OneLink.{the_link, the_key, the_keys}
use Rattle.world_core.specs.Managers.{manager_of, desk_of, conn_of, end_of, lending_on, route_of}
use Rattle.world_core.proofs.Idle.{is-up-where-due}
use Rattle.world_core.proofs.KeyedEnds.{KnowsEnds, UpFacts}

-- an entry that asks for nothing posts what the pipes post
pub only-pipes : (setup : Setup) (payload : List ℕ) (past : List Entry) (before : ℕ) (event : Event) (reply : Reply) → reply ≡ reply_of before (told setup payload past event) → asked setup payload past event reply ≡ []
    → posted setup payload past before event ≡ connection_posts setup payload (record { actor = 0; event = event; reply = reply; posts = [] }) past
only-pipes setup payload past before event reply r none =
    ap (λ r. let e : Entry = record { actor = 0; event = event; reply = r; posts = asked setup payload past event r } in e.posts ++ connection_posts setup payload e past) (sym r)
    ∙ ap (λ (ps : List Post). ps ++ connection_posts setup payload (record { actor = 0; event = event; reply = reply; posts = ps }) past) none

-- the key that was bound last is the one that is known
pub last-known : (y : Side) (q : Entry) (past : List Entry) (n : ℕ) → keys_of y (q ∷ past) ≡ the_keys y → n ≡ 1 → last_bound y n the_link (q ∷ past) ≡ Some (the_key y).key
last-known y q past n k one =
    ap (λ m. last_bound y m the_link (q ∷ past)) one
    ∙ ap (λ (ks : Keys). option_or (bound 1 the_link ks.keys) (last_bound y 1 the_link past)) k

pub known-key : (x : Side) (book : List Key) (n : ℕ) → book ≡ the_key (other x) ∷ [] → n ≡ 1 → unwrap_or (bound n the_link book) 0 ≡ (the_key (other x)).key
known-key x book n e one = ap (λ m. unwrap_or (bound m the_link book) 0) one ∙ ap (λ (b : List Key). unwrap_or (bound 1 the_link b) 0) e

module _ (setup : Setup) (payload : List ℕ) (regions : List Buffer) (q : Entry) (past : List Entry) (same_keys : (x : Side) → keys_of x (q ∷ past) ≡ keys_of x past) (knows : KnowsEnds setup payload past) where
  -- the connection of an end that is up
  up-conn : (x : Side) (s : ℕ) (f : UpFacts setup payload x s past)
      → conn_of setup payload x past s ≡ Some (record { route = route_of x s past f.lending; end = end_of setup payload x s past })
  up-conn x s f = ap (λ o. option_map (λ l. let c : Connection Half = record { route = route_of x s past l; end = end_of setup payload x s past } in c) o) f.lent_is

  -- what is due at the end of a connection, by what its socket shows
  abbrev due_by : Side → (Half → Half) → Option (Connection Half) → List Post
  due_by x act c = due_from act (manager_of setup payload regions x past) c

  key-same : (x : Side) (s : ℕ) (f : UpFacts setup payload x s past) (link : LinkId) → link ≡ the_link
      → unwrap_or (last_bound (other x) (rmb_at f.offer.address) link (q ∷ past)) 0 ≡ key_to (desk_of setup payload x past) (route_of x s past f.lending).link (route_of x s past f.lending).peer
  key-same x s f link e =
      ap (λ l. unwrap_or (last_bound (other x) (rmb_at f.offer.address) l (q ∷ past)) 0) e
      ∙ (ap (λ o. unwrap_or o 0) (last-known (other x) q past (rmb_at f.offer.address) (same_keys (other x) ∙ f.keys) f.rmb)
      ∙ (sym (known-key x (book_of x past) (rmb_at f.offer.address) f.book f.rmb)
      ∙ (ap (λ o. unwrap_or (bound (rmb_at f.offer.address) (unwrap_or o no_link) (book_of x past)) 0) (sym f.named)
      ∙ ap (λ o. key_to (desk_of setup payload x past) (unwrap_or (named_link s past) no_link) o) (sym f.heard))))

  -- the end is up: what it posts is what is due
  pub up-posts : (x : Side) (s : ℕ) (act : Half → Half) (f : UpFacts setup payload x s past) → (act (end_of setup payload x s past)).link ≡ the_link
      → flat_map (sent_posts (element_size setup) x (offered (other x) s past) (q ∷ past)) (batch (act (end_of setup payload x s past)) ∷ [])
      ≡ batch_posts (element_size setup) x (key_to (desk_of setup payload x past) (route_of x s past f.lending).link (route_of x s past f.lending).peer) (route_of x s past f.lending).peer (act (end_of setup payload x s past))
  up-posts x s act f on =
      let h : Half = act (end_of setup payload x s past) in
      ap (λ o. flat_map (sent_posts (element_size setup) x o (q ∷ past)) (batch h ∷ [])) f.theirs
      ∙ (append-nil (cdc_posts (element_size setup) x (unwrap_or (last_bound (other x) (rmb_at f.offer.address) h.link (q ∷ past)) 0) f.offer (batch h))
      ∙ (ap (λ n. cdc_posts (element_size setup) x n f.offer (batch h)) (key-same x s f h.link on)
      ∙ ap (λ o. batch_posts (element_size setup) x (key_to (desk_of setup payload x past) (route_of x s past f.lending).link (route_of x s past f.lending).peer) o h) (sym f.heard)))

  module _ (facts : (x : Side) (s : ℕ) → is_up x s past ≡ true → UpFacts setup payload x s past) where
    none-due : (x : Side) (act : Half → Half) (c : Option (Connection Half)) → ((k : Connection Half) → c ≡ Some k → is_due setup.depth (act k.end) ≡ false) → due_by x act c ≡ []
    none-due x act None e = refl
    none-due x act (Some k) e = ap (λ b. if b then batch_posts (element_size setup) x (key_to (desk_of setup payload x past) k.route.link k.route.peer) k.route.peer (act k.end) else []) (e k refl)

    conn-end : (x : Side) (s : ℕ) (o : Option Lending) (k : Connection Half) → option_map (λ l. let c : Connection Half = record { route = route_of x s past l; end = end_of setup payload x s past } in c) o ≡ Some k → k.end ≡ end_of setup payload x s past
    conn-end x s None k e = cc
    conn-end x s (Some l) k e = some-end (record { route = route_of x s past l; end = end_of setup payload x s past }) k e
      where
        some-end : (c k : Connection Half) → Some c ≡ Some k → k.end ≡ c.end
        some-end c k e = cc

    pub end-due : (x : Side) (s : ℕ) (act : Half → Half) → (act (end_of setup payload x s past)).up ≡ (end_of setup payload x s past).up → (act (end_of setup payload x s past)).link ≡ (end_of setup payload x s past).link
        → flat_map (sent_posts (element_size setup) x (offered (other x) s past) (q ∷ past)) (if is_due setup.depth (act (end_of setup payload x s past)) then batch (act (end_of setup payload x s past)) ∷ [] else [])
        ≡ due_by x act (conn_of setup payload x past s)
    end-due x s act up link = by (is_due setup.depth (act (end_of setup payload x s past))) refl
      where
        by : (b : Bool) → is_due setup.depth (act (end_of setup payload x s past)) ≡ b
            → flat_map (sent_posts (element_size setup) x (offered (other x) s past) (q ∷ past)) (if b then batch (act (end_of setup payload x s past)) ∷ [] else []) ≡ due_by x act (conn_of setup payload x past s)
        by true due =
            let h : Half = act (end_of setup payload x s past) in
            let is : is_up x s past ≡ true = sym (knows.up x s) ∙ (sym up ∙ is-up-where-due setup.depth h due) in
            let f = facts x s is in
            up-posts x s act f (link ∙ knows.link x s is)
            ∙ (ap (λ b. if b then batch_posts (element_size setup) x (key_to (desk_of setup payload x past) (route_of x s past f.lending).link (route_of x s past f.lending).peer) (route_of x s past f.lending).peer h else []) (sym due)
            ∙ ap (λ c. due_by x act c) (sym (up-conn x s f)))
        by false due = sym (none-due x act (conn_of setup payload x past s) (λ k e. ap (λ h. is_due setup.depth (act h)) (conn-end x s (lending_on s (lent setup payload x past)) k e) ∙ due))

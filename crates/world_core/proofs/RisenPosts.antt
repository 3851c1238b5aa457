-- What the end of first contact posts as its link goes live: what its side's manager has due then.
use Rattle.std.specs.List.{range_with_len}
use Rattle.side_core.specs.declared.route.Route.{Route}
use Rattle.smc_num.specs.declared.LinkId.{LinkId}
use Rattle.std.proofs.Common.{◌≡◌, ◌∙◌, ℕ, ◌<◌, ◌==◌, not, Bool, true, false, if◌then◌else◌, List, [], ◌∷◌, ◌++◌, map, flat_map, refl, ap, sym, append-nil, arith}
use Rattle.std.specs.Prelude.{Option, Some, None, option_map, unwrap_or, slice_index_or}
use Rattle.smc_num.specs.declared.Side.{Side}
use Rattle.smc_num.specs.declared.Side.TheVariants.{A, B}
use Rattle.smc_num.specs.declared.LinkPhase.TheVariants.{Live as LiveLink}
use Rattle.smc_num.specs.Names.{other, no_link}
use Rattle.rmb_region.specs.Regions.{Buffer}
use Rattle.pipe_model.specs.declared.setup.Setup.{Setup}
use Rattle.pipe_model.specs.declared.entry.Entry.{Entry}
use Rattle.pipe_model.specs.declared.post.Post.{Post}
use Rattle.pipe_model.specs.declared.sent.Sent.{Sent}
use Rattle.pipe_model.specs.Words.{element_size}
use Rattle.pipe_model.specs.History.{Offered, offered}
use Rattle.pipe_model.specs.Ends.{Half, is_due, batch, comes_up, meets_fate}
use Rattle.pipe_model.specs.Pipe.{Item, Up, Fate, half, pipe, posts_of, sent_since}
use Rattle.pipe_model.specs.Connections.{group_on, items, part}
use Rattle.pipe_model.specs.Keys.{keys_of}
use Rattle.pipe_model.specs.Lending.{terms_of}
use Rattle.pipe_model.specs.Posts.{sent_posts, end_posts, pipe_posts, is_offered, connection_posts}
use Rattle.side_core.specs.Records.{Connection}
use Rattle.side_core.specs.Manager.{Manager}
use Rattle.side_core.specs.Posting.{batch_posts}
use Rattle.side_core.specs.Acting.{key_to, link_lives, risen_from, risen_at}
use Rattle.world_core.specs.OneLink.{the_link, Stage, IsAtStage}
use Rattle.world_core.specs.Managers.{manager_of, desk_of, conn_of, end_of, route_of, each_socket}
use Rattle.world_core.proofs.PipePosts.{met}
use Rattle.world_core.proofs.PipeSteps.{risen, risen-other, sent-by}
use Rattle.world_core.proofs.KeyedEnds.{KnowsEnds, UpFacts}
use Rattle.world_core.proofs.DuePosts.{up-posts}
use Rattle.world_core.proofs.Confirming.{Confirming, IsConfirming, IsWaiting, keys-same, items-first, items-else}
use Rattle.world_core.proofs.LinkManagers.{hear, map-map}
use Rattle.world_core.proofs.Tables.{at-socket}
use Rattle.std.proofs.Math.Seq.{drop-length}

module _ {x : Side} {t : ℕ} {from to : Stage} {reply : Bool} (setup : Setup) (payload : List ℕ) (regions : List Buffer) (q : Entry) (past : List Entry) (c : Confirming x t from to reply)
    (was : IsAtStage setup from past) (now : IsAtStage setup to (q ∷ past)) (i : IsConfirming payload x reply q past) (w : IsWaiting setup x t past) (knows : KnowsEnds setup payload past) (f : UpFacts setup payload x t past)
    (known : t < setup.sockets) where
  abbrev end_before : Side → Half
  end_before y = end_of setup payload y t past

  abbrev end_after : Half
  end_after = comes_up the_link (meets_fate the_link LiveLink (end_of setup payload x t past))

  group-is : group_on t past ≡ 1
  group-is = ap (λ o. unwrap_or (option_map (λ (link : LinkId). link.group) o) 0) f.named

  abbrev news : List Item
  news = Up x the_link ∷ Fate x the_link LiveLink ∷ []

  items-here : items payload (group_on t past) t q past ≡ Up x the_link ∷ Fate x the_link LiveLink ∷ []
  items-here = ap (λ g. items payload g t q past) group-is ∙ items-first c setup payload q past was.fabric_is now.fabric_is i w

  items-there : (s : ℕ) → (s == t) ≡ false → items payload (group_on s past) s q past ≡ []
  items-there s d =
      ap (λ g. items payload g s q past) (ap (λ o. unwrap_or (option_map (λ (link : LinkId). link.group) (option_map (λ (p : Offered). p.link) o)) 0) (w.others s d B))
      ∙ items-else c setup payload q past was.fabric_is now.fabric_is i w s d

  given-by : (y : Side) (s : ℕ) (is : List Item) → items payload (group_on s past) s q past ≡ is
      → posts_of (terms_of setup) y (items payload (group_on s past) s q past) (part payload (group_on s past) s past) ≡ sent_since (end_of setup payload y s past) (half y (pipe (terms_of setup) (is ++ part payload (group_on s past) s past)))
  given-by y s is e = ap (λ (is : List Item). sent_since (end_of setup payload y s past) (half y (pipe (terms_of setup) (is ++ part payload (group_on s past) s past)))) e

  silent-end : (y : Side) (s : ℕ) → posts_of (terms_of setup) y (items payload (group_on s past) s q past) (part payload (group_on s past) s past) ≡ [] → end_posts setup payload y s q past ≡ []
  silent-end y s e = ap (λ (ms : List Sent). flat_map (sent_posts (element_size setup) y (offered (other y) s past) (q ∷ past)) ms) e

  silent-else : (s : ℕ) → (s == t) ≡ false → pipe_posts setup payload s q past ≡ []
  silent-else s d =
      ap (λ (ps : List Post). ps ++ end_posts setup payload B s q past) (silent-end A s (none A))
      ∙ silent-end B s (none B)
    where
      none : (y : Side) → posts_of (terms_of setup) y (items payload (group_on s past) s q past) (part payload (group_on s past) s past) ≡ []
      none y = given-by y s [] (items-there s d) ∙ (let h : Half = end_of setup payload y s past in drop-length h.sent)

  silent-theirs : end_posts setup payload (other x) t q past ≡ []
  silent-theirs = silent-end (other x) t
      (given-by (other x) t news items-here
      ∙ (ap (λ h. sent_since (end_before (other x)) h) (risen-other (terms_of setup) (part payload (group_on t past) t past) the_link x)
      ∙ (let h : Half = end_before (other x) in drop-length h.sent)))

  down : (end_before x).up ≡ false
  down = knows.up x t ∙ w.down

  given-own : posts_of (terms_of setup) x (items payload (group_on t past) t q past) (part payload (group_on t past) t past) ≡ (if is_due setup.depth end_after then batch end_after ∷ [] else [])
  given-own =
      given-by x t news items-here
      ∙ (ap (λ h. sent_since (end_before x) h) (risen (terms_of setup) (part payload (group_on t past) t past) the_link x down)
      ∙ sent-by setup.depth (end_before x) end_after refl)

  abbrev route : Route
  route = route_of x t past f.lending

  abbrev key : ℕ
  key = key_to (desk_of setup payload x past) (route_of x t past f.lending).link (route_of x t past f.lending).peer

  same_keys : (y : Side) → keys_of y (q ∷ past) ≡ keys_of y past
  same_keys y = now.keys y ∙ (keys-same c y ∙ sym (was.keys y))

  posts-by : (b : Bool) → flat_map (sent_posts (element_size setup) x (offered (other x) t past) (q ∷ past)) (if b then batch end_after ∷ [] else []) ≡ (if b then batch_posts (element_size setup) x key (route_of x t past f.lending).peer end_after else [])
  posts-by true = up-posts setup payload regions q past same_keys knows x t (λ h. comes_up the_link (meets_fate the_link LiveLink h)) f refl
  posts-by false = refl

  own-posts : end_posts setup payload x t q past ≡ (if is_due setup.depth end_after then batch_posts (element_size setup) x key (route_of x t past f.lending).peer end_after else [])
  own-posts = ap (λ (ms : List Sent). flat_map (sent_posts (element_size setup) x (offered (other x) t past) (q ∷ past)) ms) given-own ∙ posts-by (is_due setup.depth end_after)

  one-side : (y : Side) → end_posts setup payload (other y) t q past ≡ [] → pipe_posts setup payload t q past ≡ end_posts setup payload y t q past
  one-side A none = ap (λ (ps : List Post). end_posts setup payload A t q past ++ ps) none ∙ append-nil (end_posts setup payload A t q past)
  one-side B none = ap (λ (ps : List Post). ps ++ end_posts setup payload B t q past) none

  -- what is due in the manager
  conn-now : conn_of setup payload x past t ≡ Some (record { route = route_of x t past f.lending; end = end_of setup payload x t past })
  conn-now = ap (λ o. option_map (λ l. let k : Connection Half = record { route = route_of x t past l; end = end_of setup payload x t past } in k) o) f.lent_is

  abbrev live_manager : Manager Half
  live_manager = link_lives the_link (manager_of setup payload regions x past)

  heard-conn : slice_index_or (map (option_map hear) (each_socket (conn_of setup payload x past) setup.sockets)) t None ≡ Some (record { route = route_of x t past f.lending; end = meets_fate the_link LiveLink (end_of setup payload x t past) })
  heard-conn =
      ap (λ (cs : List (Option (Connection Half))). slice_index_or cs t None) (map-map (option_map hear) (conn_of setup payload x past) (range_with_len 0 setup.sockets))
      ∙ (at-socket (λ s. option_map hear (conn_of setup payload x past s)) setup.sockets t None known
      ∙ ap (λ k. option_map hear k) conn-now)

  due-now : risen_at t live_manager ≡ (if is_due setup.depth end_after then batch_posts (element_size setup) x key (route_of x t past f.lending).peer end_after else [])
  due-now =
      ap (λ k. risen_from live_manager k) heard-conn
      ∙ ap (λ o. let h : Half = comes_up (unwrap_or o no_link) (meets_fate the_link LiveLink (end_of setup payload x t past)) in if is_due setup.depth h then batch_posts (element_size setup) x key (route_of x t past f.lending).peer h else []) f.named

  pub risen-posts : connection_posts setup payload q past ≡ risen_at t (link_lives the_link (manager_of setup payload regions x past))
  risen-posts =
      met (λ s. pipe_posts setup payload s q past) (is_offered past) t silent-else 1 setup.sockets (ap (λ n. not (n == 0)) group-is) (omega arith) (omega arith) (omega (arith, known))
      ∙ (one-side x silent-theirs ∙ (own-posts ∙ sym due-now))

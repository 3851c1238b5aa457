-- B takes the Confirm of later contact: its end hears the offer of A and is established, and posts what is due then.
use Rattle.std.proofs.Common.{◌≡◌, ◌∙◌, ℕ, ◌<◌, ◌==◌, ◌||◌, not, Bool, true, false, if◌then◌else◌, List, [], ◌∷◌, ◌++◌, length, filter_map, flat_map, reverse, refl, ap, sym, subst, eq-eqb, append-nil, arith}
use Rattle.std.specs.Prelude.{Option, Some, None, option_map, option_to_list, unwrap_or, slice_set, slice_index_or, is_some}
use Rattle.std.specs.Option.{option_or}
use Rattle.smc_num.specs.declared.Side.{Side}
use Rattle.smc_num.specs.declared.Side.TheVariants.{A, B}
use Rattle.smc_num.specs.declared.LinkId.{LinkId}
use Rattle.smc_num.specs.Names.{other, no_link}
use Rattle.smc_num.specs.Places.{rmb_at}
use Rattle.rmb_region.specs.Regions.{Buffer}
use Rattle.clc_wire.specs.declared.offer.Offer.{Offer}
use Rattle.clc_wire.specs.declared.message.ClcMessage.TheVariants.{Confirm as ConfirmMessage}
use Rattle.pipe_model.specs.declared.setup.Setup.{Setup}
use Rattle.pipe_model.specs.declared.event.Event.TheVariants.{Clc}
use Rattle.pipe_model.specs.declared.reply.Reply.TheVariants.{Established, Sent}
use Rattle.pipe_model.specs.declared.reply.SentKind.TheVariants.{ConfirmLink as LinkSent}
use Rattle.pipe_model.specs.declared.verdict.ClcStep.TheVariants.{Ready}
use Rattle.pipe_model.specs.declared.post.Post.{Post}
use Rattle.pipe_model.specs.declared.post.Post.TheVariants.{Llc}
use Rattle.pipe_model.specs.declared.entry.Entry.{Entry}
use Rattle.pipe_model.specs.declared.sent.Sent.{Sent as SentMessage}
use Rattle.pipe_model.specs.Words.{element_size}
use Rattle.pipe_model.specs.History.{Offered, offered}
use Rattle.pipe_model.specs.Fabric.{peer, act_in, group_of}
use Rattle.pipe_model.specs.Ends.{Half, is_due, batch, settle, comes_up}
use Rattle.pipe_model.specs.Pipe.{Item, Up, GroupEnd, half, pipe, posts_of, sent_since}
use Rattle.pipe_model.specs.Connections.{WaitsConfirm, IsUp, is_up, early_state, end_state, after_loss, named_link, group_on, ups, fates, fate_of, group_end, items, part, comes_up as comes_up_with}
use Rattle.pipe_model.specs.Keys.{keys_of, book_of, last_bound, book_clc}
use Rattle.pipe_model.specs.Lending.{Lending, lendings, lent, leaves_handshake, free_places, terms_of, lends_by}
use Rattle.pipe_model.specs.Fallback.{Whole, front, is_raw}
use Rattle.pipe_model.specs.Messages.{confirm_link, pair_on}
use Rattle.pipe_model.specs.Posts.{sent_posts, cdc_posts, end_posts, pipe_posts, is_offered, connection_posts, clc_posts}
use Rattle.pipe_model.specs.Replies.{clc_step}
use Rattle.pipe_model.specs.Lawful.{asked, front_posts}
use Rattle.clc_handshake.specs.Stages.{Hand, after_confirm}
use Rattle.side_core.specs.Records.{Connection}
use Rattle.side_core.specs.Posting.{batch_posts}
use Rattle.side_core.specs.Desk.{peer_key, learns_offer}
use Rattle.side_core.specs.Manager.{Manager, hand_at, with_hand, no_hand}
use Rattle.side_core.specs.Acting.{risen_at, risen_from}
use Rattle.side_core.specs.Taking.{hears, rises_at, with_desk}
use Rattle.world_core.specs.OneLink.{the_link, the_keys, LiveAtBoth}
use Rattle.world_core.specs.Sockets.{IsWorld, on_link}
use Rattle.world_core.specs.Played.{IsPlayed}
use Rattle.world_core.specs.Agreement.{IsShaken}
use Rattle.world_core.specs.Managers.{manager_of, desk_of, hand_of, conn_of, end_of, route_of, each_socket, lending_on, heard_on, awaits_confirm, keeps_element, HasLendings, lending_due}
use Rattle.world_core.proofs.QuietEvents.{by-side, entry-of}
use Rattle.world_core.proofs.QuietEntries.{one-fate, same-group}
use Rattle.world_core.proofs.DataPosts.{connections-data}
use Rattle.world_core.proofs.EntryItems.{items-are, below-ups}
use Rattle.world_core.proofs.Parts.{part-open}
use Rattle.world_core.proofs.PipePosts.{met}
use Rattle.world_core.proofs.PipeSteps.{rests, sent-by}
use Rattle.world_core.proofs.PlainPosts.{ArePlain, data-plain, offer-stays, lends-none, lendings-stay, plain-route}
use Rattle.world_core.proofs.StillEntries.{lent-stays, still-desk, keys-stay}
use Rattle.world_core.proofs.SameManagers.{SameDesk, SameRoute, route_from, same-desk, same-conn, same-spare, hand-same}
use Rattle.world_core.proofs.DuePosts.{last-known, known-key}
use Rattle.world_core.proofs.KeptManagers.{by-parts}
use Rattle.world_core.proofs.Lendings.{lendings-kept, lending-due}
use Rattle.world_core.proofs.LinkManagers.{rise}
use Rattle.world_core.proofs.ConfirmManagers.{set-set, get-set}
use Rattle.world_core.proofs.Tables.{same-sockets, set-socket, at-socket, sockets-long}
use Rattle.world_core.proofs.TakenAlone.{IsTakenBy, taken-by}
use Rattle.world_core.proofs.Plain.{if-same, and-false, at-or-beside}
use Rattle.std.proofs.Math.Seq.{drop-length}

module _ (setup : Setup) (payload : List ℕ) (regions : List Buffer) (past : List Entry) (one : setup.links ≡ 1) (t0 s : ℕ) (world : IsWorld setup (LiveAtBoth t0) past) (lendings_are : HasLendings setup payload past) (actor n : ℕ) (posts : List Post)
    (known : s < setup.sockets) (o : Offer) (len : ℕ) (theirs_is : offered A s past ≡ on_link o) (named : named_link s past ≡ Some the_link) (first : o.first ≡ false) (rmb : rmb_at o.address ≡ 1) (state : end_state B s past ≡ WaitsConfirm) (down : is_up B s past ≡ false)
    (at : front payload A s past ≡ Whole (ConfirmMessage o) len) (step : clc_step setup payload B s (ConfirmMessage o) past ≡ Ready)
    (played : IsPlayed setup payload (entry-of actor (Clc s A) Established posts ∷ past) n) (shaken : IsShaken setup (entry-of actor (Clc s A) Established posts ∷ past)) where
  abbrev of-posts : ℕ → List Post → Entry
  of-posts a ps = entry-of a (Clc s A) Established ps

  abbrev e : Entry
  e = entry-of actor (Clc s A) Established posts

  abbrev here : Manager Half
  here = manager_of setup payload regions B past

  -- the items
  up-here : (a : ℕ) (ps : List Post) → comes_up_with B s (of-posts a ps) past ≡ Some the_link
  up-here a ps = ap (λ b. option_or (if b then named_link s past else None) None) (eq-eqb s s refl) ∙ ap (λ q. option_or q None) named

  up-else : (a : ℕ) (ps : List Post) (t : ℕ) → (t == s) ≡ false → comes_up_with B t (of-posts a ps) past ≡ None
  up-else a ps t d = ap (λ b. option_or (if b then named_link t past else None) None) d

  no-end : (a : ℕ) (ps : List Post) (y : Side) (g : ℕ) → group_end y g (of-posts a ps) past ≡ []
  no-end a ps y g = ap (λ b. if b then GroupEnd y ∷ [] else []) (same-group g (group_of y past) (group_of y past) refl)

  no-fates : (a : ℕ) (ps : List Post) (y : Side) (g : ℕ) → fates y g (of-posts a ps) past ≡ []
  no-fates a ps y g = let l = world.link in ap (λ f. filter_map (fate_of y g (peer y f).table) (peer y f).table) l.fabric_is ∙ one-fate y g (LiveAtBoth t0)

  items-by : (a : ℕ) (ps : List Post) (g t : ℕ) (us : List Item) → ups B t (of-posts a ps) past ≡ us → items payload g t (of-posts a ps) past ≡ reverse us ++ [] ++ []
  items-by a ps g t us u = items-are payload g t (of-posts a ps) past ∙ below-ups g t (of-posts a ps) past us u (λ y. no-end a ps y g) (λ y. no-fates a ps y g)

  items-here : (a : ℕ) (ps : List Post) (g : ℕ) → items payload g s (of-posts a ps) past ≡ Up B the_link ∷ []
  items-here a ps g = items-by a ps g s (Up B the_link ∷ []) (ap (λ q. option_to_list (option_map (Up B) q)) (up-here a ps))

  items-else : (a : ℕ) (ps : List Post) (g t : ℕ) → (t == s) ≡ false → items payload g t (of-posts a ps) past ≡ []
  items-else a ps g t d = items-by a ps g t [] (ap (λ q. option_to_list (option_map (Up B) q)) (up-else a ps t d))

  -- what is posted
  asked-is : asked setup payload past (Clc s A) Established ≡ []
  asked-is =
      ap (λ f. front_posts setup payload B s past f) at
      ∙ (ap (λ st. clc_posts setup payload B s (ConfirmMessage o) past st) step
      ∙ ap (λ b. let link : LinkId = unwrap_or (named_link s past) no_link in if b then Llc B link (confirm_link setup B false link (pair_on B link.slot past)) ∷ [] else []) first)

  posts-are : posts ≡ connection_posts setup payload (of-posts 0 []) past
  posts-are =
      let m = played.1 in
      m.posts
      ∙ (ap (λ r. let q : Entry = record { actor = 0; event = Clc s A; reply = r; posts = asked setup payload past (Clc s A) r } in q.posts ++ connection_posts setup payload q past) (sym m.reply)
      ∙ ap (λ (ps : List Post). ps ++ connection_posts setup payload (of-posts 0 ps) past) asked-is)

  plain-now : ArePlain posts
  plain-now = subst (λ (ps : List Post). ArePlain ps) (sym posts-are) (data-plain (connection_posts setup payload (of-posts 0 []) past) (connections-data setup payload (of-posts 0 []) past))

  acts : (y : Side) → act_in y e past ≡ None
  acts = by-side (λ y. act_in y e past ≡ None) refl refl

  acts-draft : (y : Side) → act_in y (of-posts 0 []) past ≡ None
  acts-draft = by-side (λ y. act_in y (of-posts 0 []) past ≡ None) refl refl

  abbrev before : Side → ℕ → Half
  before y t = end_of setup payload y t past

  given-by : (y : Side) (t : ℕ) (is : List Item) → items payload (group_on t past) t (of-posts 0 []) past ≡ is
      → posts_of (terms_of setup) y (items payload (group_on t past) t (of-posts 0 []) past) (part payload (group_on t past) t past) ≡ sent_since (before y t) (half y (pipe (terms_of setup) (is ++ part payload (group_on t past) t past)))
  given-by y t is i = ap (λ (is : List Item). sent_since (before y t) (half y (pipe (terms_of setup) (is ++ part payload (group_on t past) t past)))) i

  silent-end : (y : Side) (t : ℕ) → posts_of (terms_of setup) y (items payload (group_on t past) t (of-posts 0 []) past) (part payload (group_on t past) t past) ≡ [] → end_posts setup payload y t (of-posts 0 []) past ≡ []
  silent-end y t i = ap (λ (ms : List SentMessage). flat_map (sent_posts (element_size setup) y (offered (other y) t past) (of-posts 0 [] ∷ past)) ms) i

  silent-else : (t : ℕ) → (t == s) ≡ false → pipe_posts setup payload t (of-posts 0 []) past ≡ []
  silent-else t d =
      ap (λ (ps : List Post). ps ++ end_posts setup payload B t (of-posts 0 []) past) (silent-end A t (none A)) ∙ silent-end B t (none B)
    where
      none : (y : Side) → posts_of (terms_of setup) y (items payload (group_on t past) t (of-posts 0 []) past) (part payload (group_on t past) t past) ≡ []
      none y = given-by y t [] (items-else 0 [] (group_on t past) t d) ∙ (let h : Half = before y t in drop-length h.sent)

  silent-a : end_posts setup payload A s (of-posts 0 []) past ≡ []
  silent-a = silent-end A s
      (given-by A s (Up B the_link ∷ []) (items-here 0 [] (group_on s past))
      ∙ (ap (λ h. sent_since (before A s) h) (rests (terms_of setup) A (part payload (group_on s past) s past)) ∙ (let h : Half = before A s in drop-length h.sent)))

  abbrev risen_end : Half
  risen_end = comes_up the_link (end_of setup payload B s past)

  given-own : posts_of (terms_of setup) B (items payload (group_on s past) s (of-posts 0 []) past) (part payload (group_on s past) s past) ≡ (if is_due setup.depth risen_end then batch risen_end ∷ [] else [])
  given-own = given-by B s (Up B the_link ∷ []) (items-here 0 [] (group_on s past)) ∙ sent-by setup.depth (before B s) risen_end refl

  keys-then : keys_of A (of-posts 0 [] ∷ past) ≡ the_keys A
  keys-then = let l = world.link in keys-stay setup payload (LiveAtBoth t0) A (of-posts 0 []) past world.link refl (acts-draft A) tt ∙ l.keys A

  abbrev key : ℕ
  key = peer_key o.address the_link (desk_of setup payload B past)

  key-same : unwrap_or (last_bound A (rmb_at o.address) the_link (of-posts 0 [] ∷ past)) 0 ≡ key
  key-same =
      let l = world.link in
      ap (λ q. unwrap_or q 0) (last-known A (of-posts 0 []) past (rmb_at o.address) keys-then rmb) ∙ sym (known-key B (book_of B past) (rmb_at o.address) (l.book B) rmb)

  posts-by : (b : Bool) → flat_map (sent_posts (element_size setup) B (offered A s past) (of-posts 0 [] ∷ past)) (if b then batch risen_end ∷ [] else []) ≡ (if b then batch_posts (element_size setup) B key (Some o) risen_end else [])
  posts-by true =
      ap (λ q. flat_map (sent_posts (element_size setup) B q (of-posts 0 [] ∷ past)) (batch risen_end ∷ [])) theirs_is
      ∙ (append-nil (cdc_posts (element_size setup) B (unwrap_or (last_bound A (rmb_at o.address) the_link (of-posts 0 [] ∷ past)) 0) o (batch risen_end))
      ∙ ap (λ k. cdc_posts (element_size setup) B k o (batch risen_end)) key-same)
  posts-by false = refl

  own-posts : end_posts setup payload B s (of-posts 0 []) past ≡ (if is_due setup.depth risen_end then batch_posts (element_size setup) B key (Some o) risen_end else [])
  own-posts = ap (λ (ms : List SentMessage). flat_map (sent_posts (element_size setup) B (offered A s past) (of-posts 0 [] ∷ past)) ms) given-own ∙ posts-by (is_due setup.depth risen_end)

  -- the connection of the socket
  abbrev aim : Connection Half → Connection Half
  aim c = record c { route = record c.route { peer = Some o } }

  abbrev conns0 : List (Option (Connection Half))
  conns0 = each_socket (conn_of setup payload B past) setup.sockets

  aimed-at : slice_index_or (slice_set conns0 s (option_map aim (slice_index_or conns0 s None))) s None ≡ option_map aim (conn_of setup payload B past s)
  aimed-at =
      get-set conns0 s (option_map aim (slice_index_or conns0 s None)) None (subst (λ k. s < k) (sym (sockets-long (conn_of setup payload B past) setup.sockets)) known)
      ∙ ap (λ q. option_map aim q) (at-socket (conn_of setup payload B past) setup.sockets s None known)

  lending-is : lending_on s (lent setup payload B past) ≡ lending_due B s past
  lending-is = lendings_are.each B s

  module _ (ob : Offer) (ours : offered B s past ≡ on_link ob) where
    abbrev l : Lending
    l = lends_by s the_link ob

    lent-s : lending_on s (lent setup payload B past) ≡ Some l
    lent-s = lending-is ∙ lending-due B s past (record { link = the_link; offer = ob }) ours (ap (λ st. keeps_element st) state)

    conn-was : conn_of setup payload B past s ≡ Some (record { route = route_of B s past l; end = end_of setup payload B s past })
    conn-was = ap (λ q. option_map (λ k. let c : Connection Half = record { route = route_of B s past k; end = end_of setup payload B s past } in c) q) lent-s

    due-now : risen_at s (hears s o here) ≡ (if is_due setup.depth risen_end then batch_posts (element_size setup) B key (Some o) risen_end else [])
    due-now =
        ap (λ k. risen_from (hears s o here) k) (aimed-at ∙ ap (λ q. option_map aim q) conn-was)
        ∙ ap (λ q. let link : LinkId = unwrap_or q no_link in let h : Half = comes_up link (end_of setup payload B s past) in if is_due setup.depth h then batch_posts (element_size setup) B (peer_key o.address link (desk_of setup payload B past)) (Some o) h else []) named

    posts-due : posts ≡ risen_at s (hears s o here)
    posts-due =
        posts-are
        ∙ (met (λ t. pipe_posts setup payload t (of-posts 0 []) past) (is_offered past) s silent-else 1 setup.sockets (ap (λ q. not (unwrap_or (option_map (λ (link : LinkId). link.group) q) 0 == 0)) named) (omega arith) (omega arith) (omega (arith, known))
        ∙ (ap (λ (ps : List Post). ps ++ end_posts setup payload B s (of-posts 0 []) past) silent-a ∙ (own-posts ∙ sym due-now)))

    -- what stays
    stays : (y : Side) (t : ℕ) → leaves_handshake y t (Clc s A) Established ≡ false
    stays = by-side (λ y. (t : ℕ) → leaves_handshake y t (Clc s A) Established ≡ false) (λ t. refl) (λ t. and-false (t == s))

    lent-now : (y : Side) → lent setup payload y (e ∷ past) ≡ lent setup payload y past
    lent-now y = lent-stays setup payload y e past refl (λ g t. part-open setup payload g t (e ∷ past) n played shaken) (lends-none e past plain-now y) (stays y)

    desk-now : (y : Side) → SameDesk setup payload y (e ∷ past) past
    desk-now y = still-desk setup payload (LiveAtBoth t0) y e past world.link refl (acts y) plain-now (by-side (λ y. book_clc y (Clc s A) Established past (book_of y past) ≡ book_of y past) refl refl y) (lent-now y)

    up-b : (t : ℕ) → (t == s) ≡ false → is_up B t (e ∷ past) ≡ is_up B t past
    up-b t d = ap (λ q. is_some q || is_up B t past) (up-else actor posts t d)

    up-s : is_up B s (e ∷ past) ≡ true
    up-s = ap (λ q. is_some q || is_up B s past) (up-here actor posts)

    early-a : (t : ℕ) → early_state A t (e ∷ past) ≡ early_state A t past
    early-a t = ap (λ b. after_loss b (group_on t past) (early_state A t past)) (same-group (group_on t past) (group_of A past) (group_of A past) refl)

    early-b : (t : ℕ) → early_state B t (e ∷ past) ≡ early_state B t past
    early-b t = ap (λ b. after_loss b (group_on t past) (if t == s then early_state B t past else early_state B t past)) (same-group (group_on t past) (group_of B past) (group_of B past) refl) ∙ if-same (t == s) (early_state B t past)

    state-a : (t : ℕ) → end_state A t (e ∷ past) ≡ end_state A t past
    state-a t = ap (λ a. if is_up A t past then IsUp else a) (early-a t)

    state-else : (t : ℕ) → (t == s) ≡ false → end_state B t (e ∷ past) ≡ end_state B t past
    state-else t d = ap (λ b. if b then IsUp else early_state B t (e ∷ past)) (up-b t d) ∙ ap (λ a. if is_up B t past then IsUp else a) (early-b t)

    state-s : end_state B s (e ∷ past) ≡ IsUp
    state-s = ap (λ b. if b then IsUp else early_state B s (e ∷ past)) up-s

    group-same : (t : ℕ) → group_on t (e ∷ past) ≡ group_on t past
    group-same t = ap (λ q. unwrap_or (option_map (λ (link : LinkId). link.group) (option_map (λ (p : Offered). p.link) q)) 0) (offer-stays e past plain-now B t)

    end-by : (y : Side) (t : ℕ) (is : List Item) → items payload (group_on t past) t e past ≡ is → end_of setup payload y t (e ∷ past) ≡ half y (pipe (terms_of setup) (is ++ part payload (group_on t past) t past))
    end-by y t is i = ap (λ g. half y (pipe (terms_of setup) (part payload g t (e ∷ past)))) (group-same t) ∙ ap (λ (is : List Item). half y (pipe (terms_of setup) (is ++ part payload (group_on t past) t past))) i

    end-a : (t : ℕ) → end_of setup payload A t (e ∷ past) ≡ end_of setup payload A t past
    end-a =
        at-or-beside (λ k. end_of setup payload A k (e ∷ past) ≡ end_of setup payload A k past) s
        (end-by A s (Up B the_link ∷ []) (items-here actor posts (group_on s past)) ∙ rests (terms_of setup) A (part payload (group_on s past) s past))
        (λ t d. end-by A t [] (items-else actor posts (group_on t past) t d))

    route-by : (y : Side) (t : ℕ) → is_up y t (e ∷ past) ≡ is_up y t past → end_state y t (e ∷ past) ≡ end_state y t past → SameRoute y (e ∷ past) past t
    route-by y t up same = plain-route e past plain-now y t up same

    heard-s : heard_on B s (e ∷ past) ≡ Some o
    heard-s = ap (λ st. if awaits_confirm st then None else option_map (λ (p : Offered). p.offer) (offered A s (e ∷ past))) state-s ∙ ap (λ q. option_map (λ (p : Offered). p.offer) q) (offer-stays e past plain-now A s ∙ theirs_is)

    conn-s : conn_of setup payload B (e ∷ past) s ≡ option_map (rise setup.depth) (option_map aim (conn_of setup payload B past s))
    conn-s =
        ap (λ q. option_map (λ k. let c : Connection Half = record { route = route_of B s (e ∷ past) k; end = end_of setup payload B s (e ∷ past) } in c) q) (ap (λ (ls : List Lending). lending_on s ls) (lent-now B) ∙ lent-s)
        ∙ (ap (λ q. Some (record { route = route_from (option_map (λ (p : Offered). p.link) q) (is_up B s (e ∷ past)) (lendings B (e ∷ past)) (heard_on B s (e ∷ past)) l; end = end_of setup payload B s (e ∷ past) })) (offer-stays e past plain-now B s)
        ∙ (ap (λ b. Some (record { route = route_from (named_link s past) b (lendings B (e ∷ past)) (heard_on B s (e ∷ past)) l; end = end_of setup payload B s (e ∷ past) })) up-s
        ∙ (ap (λ (all : List Lending). Some (record { route = route_from (named_link s past) true all (heard_on B s (e ∷ past)) l; end = end_of setup payload B s (e ∷ past) })) (lendings-stay e past plain-now B)
        ∙ (ap (λ (q : Option Offer). Some (record { route = route_from (named_link s past) true (lendings B past) q l; end = end_of setup payload B s (e ∷ past) })) heard-s
        ∙ (ap (λ h. Some (record { route = route_from (named_link s past) true (lendings B past) (Some o) l; end = h })) (end-by B s (Up B the_link ∷ []) (items-here actor posts (group_on s past)))
        ∙ (ap (λ q. Some (record { route = route_from (named_link s past) true (lendings B past) (Some o) l; end = settle setup.depth (comes_up (unwrap_or q no_link) (end_of setup payload B s past)) })) (sym named)
        ∙ ap (λ q. option_map (rise setup.depth) (option_map aim q)) (sym conn-was)))))))

    hand-s : hand_of B (e ∷ past) s ≡ record (hand_at s here) { state = after_confirm false }
    hand-s = ap (λ a. let h : Hand = record { raw = is_raw s past; state = a } in h) state-s ∙ ap (λ (h : Hand). let k : Hand = record h { state = IsUp } in k) (sym (at-socket (hand_of B past) setup.sockets s no_hand known))

    rises-new : slice_set conns0 s (option_map (rise setup.depth) (option_map aim (conn_of setup payload B past s)))
        ≡ slice_set (slice_set conns0 s (option_map aim (slice_index_or conns0 s None))) s (option_map (rise setup.depth) (slice_index_or (slice_set conns0 s (option_map aim (slice_index_or conns0 s None))) s None))
    rises-new =
        sym (set-set conns0 s (option_map aim (slice_index_or conns0 s None)) (option_map (rise setup.depth) (option_map aim (conn_of setup payload B past s))))
        ∙ ap (λ q. slice_set (slice_set conns0 s (option_map aim (slice_index_or conns0 s None))) s (option_map (rise setup.depth) q)) (sym aimed-at)

    own-now : manager_of setup payload regions B (e ∷ past) ≡ with_hand s (record (hand_at s here) { state = after_confirm false }) (rises_at s (hears s o here))
    own-now =
        by-parts setup payload regions B (e ∷ past) (desk_of setup payload B past) (slice_set (each_socket (hand_of B past) setup.sockets) s (record (hand_at s here) { state = IsUp }))
        (slice_set (slice_set conns0 s (option_map aim (slice_index_or conns0 s None))) s (option_map (rise setup.depth) (slice_index_or (slice_set conns0 s (option_map aim (slice_index_or conns0 s None))) s None)))
        (length (lendings B past)) (length (free_places setup payload B past))
        (same-desk setup payload B (e ∷ past) past (desk-now B))
        (sym (set-socket (hand_of B past) (hand_of B (e ∷ past)) setup.sockets s (λ t d. hand-same B (e ∷ past) past t refl (state-else t d))) ∙ ap (λ h. slice_set (each_socket (hand_of B past) setup.sockets) s h) hand-s)
        (sym (set-socket (conn_of setup payload B past) (conn_of setup payload B (e ∷ past)) setup.sockets s
        (λ t d. same-conn setup payload B (e ∷ past) past t (route-by B t (up-b t d) (state-else t d)) (lendings-stay e past plain-now B) (lent-now B) (end-by B t [] (items-else actor posts (group_on t past) t d))))
        ∙ (ap (λ (c : Option (Connection Half)). slice_set conns0 s c) conn-s ∙ rises-new))
        (ap (λ (ls : List Lending). length ls) (lendings-stay e past plain-now B)) (same-spare setup payload B (e ∷ past) past (lent-now B))

    theirs-now : manager_of setup payload regions A (e ∷ past) ≡ manager_of setup payload regions A past
    theirs-now =
        by-parts setup payload regions A (e ∷ past) (desk_of setup payload A past) (each_socket (hand_of A past) setup.sockets) (each_socket (conn_of setup payload A past) setup.sockets) (length (lendings A past)) (length (free_places setup payload A past))
        (same-desk setup payload A (e ∷ past) past (desk-now A)) (same-sockets (hand_of A (e ∷ past)) (hand_of A past) (λ t. hand-same A (e ∷ past) past t refl (state-a t)) setup.sockets)
        (same-sockets (conn_of setup payload A (e ∷ past)) (conn_of setup payload A past) (λ t. same-conn setup payload A (e ∷ past) past t (route-by A t refl (state-a t)) (lendings-stay e past plain-now A) (lent-now A) (end-a t)) setup.sockets)
        (ap (λ (ls : List Lending). length ls) (lendings-stay e past plain-now A)) (same-spare setup payload A (e ∷ past) past (lent-now A))

    keeps-b : (t : ℕ) → keeps_element (end_state B t (e ∷ past)) ≡ keeps_element (end_state B t past)
    keeps-b =
        at-or-beside (λ k. keeps_element (end_state B k (e ∷ past)) ≡ keeps_element (end_state B k past)) s
        (ap (λ st. keeps_element st) state-s ∙ sym (ap (λ st. keeps_element st) state))
        (λ t d. ap (λ st. keeps_element st) (state-else t d))

    pub comes-up-later : IsTakenBy setup payload regions B s (ConfirmMessage o) the_link e past
    comes-up-later =
        taken-by setup payload regions B s (ConfirmMessage o) the_link Ready e past one known step
        (record {
          reply = ap (λ b. if b then Sent LinkSent else Established) (sym first);
          posts = posts-due ∙ (ap (λ b. (if b then Llc B the_link (confirm_link setup B false the_link (pair_on B 1 past)) ∷ [] else []) ++ (if b then [] else risen_at s (hears s o here))) (sym first));
          own = own-now ∙ ap (λ b. with_hand s (record (hand_at s here) { state = after_confirm b }) (if b then hears s o (with_desk (learns_offer the_link o) here) else rises_at s (hears s o here))) (sym first);
        })
        theirs-now
        (lendings-kept setup payload e past lendings_are lent-now (offer-stays e past plain-now) (by-side (λ y. (t : ℕ) → keeps_element (end_state y t (e ∷ past)) ≡ keeps_element (end_state y t past)) (λ t. ap (λ st. keeps_element st) (state-a t)) keeps-b))

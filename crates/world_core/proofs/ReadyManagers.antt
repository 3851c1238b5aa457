-- The server takes the Confirm of first contact: it learns the key and the offer of its peer, and asks it to confirm the link.
use Rattle.side_core.specs.Acting.{risen_at}
use Rattle.std.proofs.Common.{◌≡◌, ◌∙◌, ℕ, ◌<◌, ◌==◌, Bool, true, false, if◌then◌else◌, List, [], ◌∷◌, ◌++◌, length, refl, ap, sym, subst, eq-eqb, append-nil, map}
use Rattle.std.specs.Prelude.{Option, Some, None, option_map, unwrap_or, slice_set, slice_index_or}
use Rattle.smc_num.specs.declared.Side.{Side}
use Rattle.smc_num.specs.declared.Side.TheVariants.{A, B}
use Rattle.smc_num.specs.declared.LinkId.{LinkId}
use Rattle.smc_num.specs.Names.{up_to, no_link}
use Rattle.smc_num.specs.Places.{rmb_at}
use Rattle.smc_num.specs.Keys.{Key, binds}
use Rattle.rmb_region.specs.Regions.{Buffer}
use Rattle.clc_wire.specs.declared.offer.Offer.{Offer}
use Rattle.clc_wire.specs.declared.message.ClcMessage.TheVariants.{Confirm as ConfirmMessage}
use Rattle.pipe_model.specs.declared.setup.Setup.{Setup}
use Rattle.pipe_model.specs.declared.event.Event.TheVariants.{Clc}
use Rattle.pipe_model.specs.declared.reply.Reply.TheVariants.{Sent, Established}
use Rattle.pipe_model.specs.declared.reply.SentKind.TheVariants.{ConfirmLink as LinkSent}
use Rattle.pipe_model.specs.declared.verdict.ClcStep.TheVariants.{Ready}
use Rattle.pipe_model.specs.declared.post.Post.{Post}
use Rattle.pipe_model.specs.declared.post.Post.TheVariants.{Llc}
use Rattle.pipe_model.specs.declared.entry.Entry.{Entry}
use Rattle.pipe_model.specs.History.{Offered, offered}
use Rattle.pipe_model.specs.Fabric.{Fabric, fabric, act_in, group_of}
use Rattle.pipe_model.specs.Ends.{Half}
use Rattle.pipe_model.specs.Connections.{WaitsConfirm, WaitsLink, IsUp, is_up, early_state, end_state, after_loss, named_link, group_on, up_by, items}
use Rattle.pipe_model.specs.Keys.{book_of, book_clc, learns_offer as keys_learns_offer, keys_of}
use Rattle.pipe_model.specs.Lending.{Lending, lendings, lent, leaves_handshake, free_places}
use Rattle.pipe_model.specs.Fallback.{Whole, front, is_raw}
use Rattle.pipe_model.specs.Messages.{pair_on, serial, confirm_link, act_pair}
use Rattle.pipe_model.specs.Posts.{connection_posts, clc_posts, groups_begun}
use Rattle.pipe_model.specs.Replies.{clc_step}
use Rattle.pipe_model.specs.Lawful.{asked, front_posts}
use Rattle.clc_handshake.specs.Stages.{Hand, after_confirm}
use Rattle.side_core.specs.Records.{Connection}
use Rattle.side_core.specs.Desk.{most_slots, learns_offer}
use Rattle.side_core.specs.Manager.{Manager, hand_at, with_hand, no_hand}
use Rattle.side_core.specs.Taking.{asks_link, hears, with_desk, rises_at}
use Rattle.world_core.specs.OneLink.{the_link, Made}
use Rattle.world_core.specs.Sockets.{IsWorld, on_link}
use Rattle.world_core.specs.Played.{IsPlayed}
use Rattle.world_core.specs.Agreement.{IsShaken}
use Rattle.world_core.specs.Managers.{manager_of, desk_of, hand_of, conn_of, end_of, rows_of, first_on, each_socket, lending_on, heard_on, awaits_confirm, keeps_element, HasLendings}
use Rattle.world_core.proofs.QuietEvents.{by-side, entry-of}
use Rattle.world_core.proofs.QuietEntries.{only-deeds, same-group}
use Rattle.world_core.proofs.Parts.{part-open}
use Rattle.world_core.proofs.PlainPosts.{ArePlain, offer-stays, lends-none, lendings-stay, groups-stay, pairs-stay, serial-stays, first-stays, plain-route}
use Rattle.world_core.proofs.StillEntries.{silent-pipes, end-stays, lent-stays, still-desk, keys-stay}
use Rattle.world_core.proofs.SameManagers.{SameDesk, SameRoute, desk_from, conn_from, route_from, same-desk, same-conn, same-spare, rows_from, hand-same}
use Rattle.world_core.proofs.KeptManagers.{by-parts}
use Rattle.world_core.proofs.Lendings.{lendings-kept}
use Rattle.world_core.proofs.Tables.{same-sockets, set-socket, at-socket}
use Rattle.world_core.proofs.TakenAlone.{IsTakenBy, taken-by}
use Rattle.world_core.proofs.Plain.{and-false, at-or-beside}

module _ (setup : Setup) (payload : List ℕ) (regions : List Buffer) (past : List Entry) (one : setup.links ≡ 1) (s : ℕ) (world : IsWorld setup (Made s) past) (lendings_are : HasLendings setup payload past) (actor n : ℕ) (posts : List Post)
    (known : s < setup.sockets) (o : Offer) (len : ℕ) (theirs_is : offered A s past ≡ on_link o) (named : named_link s past ≡ Some the_link) (first : o.first ≡ true) (state : end_state B s past ≡ WaitsConfirm) (down : is_up B s past ≡ false)
    (at : front payload A s past ≡ Whole (ConfirmMessage o) len) (step : clc_step setup payload B s (ConfirmMessage o) past ≡ Ready)
    (played : IsPlayed setup payload (entry-of actor (Clc s A) (Sent LinkSent) posts ∷ past) n) (shaken : IsShaken setup (entry-of actor (Clc s A) (Sent LinkSent) posts ∷ past)) where
  abbrev e : Entry
  e = entry-of actor (Clc s A) (Sent LinkSent) posts

  abbrev here : Manager Half
  here = manager_of setup payload regions B past

  acts : (a : ℕ) (ps : List Post) (y : Side) → act_in y (entry-of a (Clc s A) (Sent LinkSent) ps) past ≡ None
  acts a ps = by-side (λ y. act_in y (entry-of a (Clc s A) (Sent LinkSent) ps) past ≡ None) refl refl

  up_none : (y : Side) (t : ℕ) → up_by y t (Clc s A) (Sent LinkSent) past ≡ None
  up_none = by-side (λ y. (t : ℕ) → up_by y t (Clc s A) (Sent LinkSent) past ≡ None) (λ t. refl) (λ t. refl)

  no-items : (a : ℕ) (ps : List Post) (g t : ℕ) → items payload g t (entry-of a (Clc s A) (Sent LinkSent) ps) past ≡ []
  no-items a ps g t = only-deeds payload (Made s) (entry-of a (Clc s A) (Sent LinkSent) ps) past (let l = world.link in l.fabric_is) refl (acts a ps) up_none g t

  asked-is : asked setup payload past (Clc s A) (Sent LinkSent) ≡ asks_link the_link (ConfirmMessage o) here
  asked-is =
      ap (λ f. front_posts setup payload B s past f) at
      ∙ (ap (λ st. clc_posts setup payload B s (ConfirmMessage o) past st) step
      ∙ ap (λ l. let link : LinkId = unwrap_or l no_link in if o.first then Llc B link (confirm_link setup B false link (pair_on B link.slot past)) ∷ [] else []) named)

  made-posts : posts ≡ asks_link the_link (ConfirmMessage o) here
  made-posts =
      let m = played.1 in
      m.posts
      ∙ (ap (λ r. let q : Entry = record { actor = 0; event = Clc s A; reply = r; posts = asked setup payload past (Clc s A) r } in q.posts ++ connection_posts setup payload q past) (sym m.reply)
      ∙ (ap (λ (ps : List Post). asked setup payload past (Clc s A) (Sent LinkSent) ++ ps) (silent-pipes setup payload past (entry-of 0 (Clc s A) (Sent LinkSent) (asked setup payload past (Clc s A) (Sent LinkSent))) (no-items 0 (asked setup payload past (Clc s A) (Sent LinkSent))))
      ∙ (append-nil (asked setup payload past (Clc s A) (Sent LinkSent)) ∙ asked-is)))

  plain-now : ArePlain posts
  plain-now = subst (λ (ps : List Post). ArePlain ps) (sym made-posts) (by o.first)
    where
      by : (b : Bool) → ArePlain (if b then Llc B the_link (confirm_link setup B false the_link (pair_on B 1 past)) ∷ [] else [])
      by true = (refl, tt)
      by false = tt

  stays : (y : Side) (t : ℕ) → leaves_handshake y t (Clc s A) (Sent LinkSent) ≡ false
  stays = by-side (λ y. (t : ℕ) → leaves_handshake y t (Clc s A) (Sent LinkSent) ≡ false) (λ t. refl) (λ t. and-false (t == s))

  lent-now : (y : Side) → lent setup payload y (e ∷ past) ≡ lent setup payload y past
  lent-now y = lent-stays setup payload y e past refl (λ g t. part-open setup payload g t (e ∷ past) n played shaken) (lends-none e past plain-now y) (stays y)

  desk-theirs : SameDesk setup payload A (e ∷ past) past
  desk-theirs = still-desk setup payload (Made s) A e past world.link refl (acts actor posts A) plain-now refl (lent-now A)

  -- B learns the key
  book-now : book_of B (e ∷ past) ≡ binds (record { key = o.key; rmb = rmb_at o.address; link = the_link }) (book_of B past)
  book-now =
      let l = world.link in
      ap (λ (f : Fabric). if f.b.group == 0 then [] else book_clc B (Clc s A) (Sent LinkSent) past (book_of B past)) l.fabric_is
      ∙ ap (λ q. keys_learns_offer q (book_of B past)) theirs_is

  desk-own : desk_of setup payload B (e ∷ past) ≡ learns_offer the_link o (desk_of setup payload B past)
  desk-own =
      let l = world.link in
      ap (λ k. desk_from setup B (fabric past) k (map (λ k. pair_on B k (e ∷ past)) (up_to most_slots)) (serial B (e ∷ past)) (keys_of B (e ∷ past)) (book_of B (e ∷ past)) (rows_of setup payload B (e ∷ past)) (first_on B (e ∷ past))) (groups-stay e past plain-now)
      ∙ (ap (λ (ns : List ℕ). desk_from setup B (fabric past) (groups_begun past) ns (serial B (e ∷ past)) (keys_of B (e ∷ past)) (book_of B (e ∷ past)) (rows_of setup payload B (e ∷ past)) (first_on B (e ∷ past))) (pairs-stay e past plain-now B (ap (λ a. act_pair a) (acts actor posts B)))
      ∙ (ap (λ k. desk_from setup B (fabric past) (groups_begun past) (map (λ k. pair_on B k past) (up_to most_slots)) k (keys_of B (e ∷ past)) (book_of B (e ∷ past)) (rows_of setup payload B (e ∷ past)) (first_on B (e ∷ past))) (serial-stays e past plain-now B (ap (λ a. act_pair a) (acts actor posts B)))
      ∙ (ap (λ ks. desk_from setup B (fabric past) (groups_begun past) (map (λ k. pair_on B k past) (up_to most_slots)) (serial B past) ks (book_of B (e ∷ past)) (rows_of setup payload B (e ∷ past)) (first_on B (e ∷ past))) (keys-stay setup payload (Made s) B e past world.link refl (acts actor posts B) plain-now)
      ∙ (ap (λ (b : List Key). desk_from setup B (fabric past) (groups_begun past) (map (λ k. pair_on B k past) (up_to most_slots)) (serial B past) (keys_of B past) b (rows_of setup payload B (e ∷ past)) (first_on B (e ∷ past))) book-now
      ∙ (ap (λ (all : List Lending). desk_from setup B (fabric past) (groups_begun past) (map (λ k. pair_on B k past) (up_to most_slots)) (serial B past) (keys_of B past) (binds (record { key = o.key; rmb = rmb_at o.address; link = the_link }) (book_of B past)) (rows_from setup B all (lent setup payload B (e ∷ past))) (first_on B (e ∷ past))) (lendings-stay e past plain-now B)
      ∙ (ap (λ (now : List Lending). desk_from setup B (fabric past) (groups_begun past) (map (λ k. pair_on B k past) (up_to most_slots)) (serial B past) (keys_of B past) (binds (record { key = o.key; rmb = rmb_at o.address; link = the_link }) (book_of B past)) (rows_from setup B (lendings B past) now) (first_on B (e ∷ past))) (lent-now B)
      ∙ ap (λ k. desk_from setup B (fabric past) (groups_begun past) (map (λ k. pair_on B k past) (up_to most_slots)) (serial B past) (keys_of B past) (binds (record { key = o.key; rmb = rmb_at o.address; link = the_link }) (book_of B past)) (rows_of setup payload B past) k) (first-stays e past plain-now B)))))))

  -- states
  up-same : (y : Side) (t : ℕ) → is_up y t (e ∷ past) ≡ is_up y t past
  up-same = by-side (λ y. (t : ℕ) → is_up y t (e ∷ past) ≡ is_up y t past) (λ t. refl) (λ t. refl)

  early-theirs : (t : ℕ) → early_state A t (e ∷ past) ≡ early_state A t past
  early-theirs t = ap (λ b. after_loss b (group_on t past) (early_state A t past)) (same-group (group_on t past) (group_of A past) (group_of A past) refl)

  early-own : (t : ℕ) → early_state B t (e ∷ past) ≡ (if t == s then WaitsLink else early_state B t past)
  early-own t = ap (λ b. after_loss b (group_on t past) (if t == s then WaitsLink else early_state B t past)) (same-group (group_on t past) (group_of B past) (group_of B past) refl)

  state-theirs : (t : ℕ) → end_state A t (e ∷ past) ≡ end_state A t past
  state-theirs t = ap (λ a. if is_up A t past then IsUp else a) (early-theirs t)

  state-else : (t : ℕ) → (t == s) ≡ false → end_state B t (e ∷ past) ≡ end_state B t past
  state-else t d = ap (λ a. if is_up B t past then IsUp else a) (early-own t ∙ ap (λ b. if b then WaitsLink else early_state B t past) d)

  state-here : end_state B s (e ∷ past) ≡ WaitsLink
  state-here = ap (λ b. if b then IsUp else early_state B s (e ∷ past)) (up-same B s ∙ down) ∙ (early-own s ∙ ap (λ b. if b then WaitsLink else early_state B s past) (eq-eqb s s refl))

  route-by : (y : Side) (t : ℕ) → end_state y t (e ∷ past) ≡ end_state y t past → SameRoute y (e ∷ past) past t
  route-by y t same = plain-route e past plain-now y t (up-same y t) same

  end-same : (y : Side) (t : ℕ) → end_of setup payload y t (e ∷ past) ≡ end_of setup payload y t past
  end-same y t = end-stays setup payload past e (no-items actor posts) y t (ap (λ o. unwrap_or (option_map (λ (link : LinkId). link.group) (option_map (λ (p : Offered). p.link) o)) 0) (offer-stays e past plain-now B t))

  heard-here : heard_on B s (e ∷ past) ≡ Some o
  heard-here =
      ap (λ st. if awaits_confirm st then None else option_map (λ (p : Offered). p.offer) (offered A s (e ∷ past))) state-here
      ∙ ap (λ q. option_map (λ (p : Offered). p.offer) q) (offer-stays e past plain-now A s ∙ theirs_is)

  abbrev aim : Connection Half → Connection Half
  aim c = record c { route = record c.route { peer = Some o } }

  aimed : (link : Option LinkId) (up : Bool) (all : List Lending) (heard : Option Offer) (h : Half) (found : Option Lending)
      → option_map (λ l. let c : Connection Half = record { route = route_from link up all (Some o) l; end = h } in c) found ≡ option_map aim (option_map (λ l. let c : Connection Half = record { route = route_from link up all heard l; end = h } in c) found)
  aimed link up all heard h None = refl
  aimed link up all heard h (Some l) = refl

  conn-here : conn_of setup payload B (e ∷ past) s ≡ option_map aim (conn_of setup payload B past s)
  conn-here =
      ap (λ q. conn_from s q (is_up B s (e ∷ past)) (lendings B (e ∷ past)) (heard_on B s (e ∷ past)) (end_of setup payload B s (e ∷ past)) (lent setup payload B (e ∷ past))) (ap (λ o. option_map (λ (p : Offered). p.link) o) (offer-stays e past plain-now B s))
      ∙ (ap (λ (ls : List Lending). conn_from s (named_link s past) (is_up B s past) ls (heard_on B s (e ∷ past)) (end_of setup payload B s (e ∷ past)) (lent setup payload B (e ∷ past))) (lendings-stay e past plain-now B)
      ∙ (ap (λ (q : Option Offer). conn_from s (named_link s past) (is_up B s past) (lendings B past) q (end_of setup payload B s (e ∷ past)) (lent setup payload B (e ∷ past))) heard-here
      ∙ (ap (λ h. conn_from s (named_link s past) (is_up B s past) (lendings B past) (Some o) h (lent setup payload B (e ∷ past))) (end-same B s)
      ∙ (ap (λ (ls : List Lending). conn_from s (named_link s past) (is_up B s past) (lendings B past) (Some o) (end_of setup payload B s past) ls) (lent-now B)
      ∙ aimed (named_link s past) (is_up B s past) (lendings B past) (heard_on B s past) (end_of setup payload B s past) (lending_on s (lent setup payload B past))))))

  hand-here : hand_of B (e ∷ past) s ≡ record (hand_at s here) { state = after_confirm true }
  hand-here =
      ap (λ a. let h : Hand = record { raw = is_raw s past; state = a } in h) state-here
      ∙ ap (λ (h : Hand). let k : Hand = record h { state = WaitsLink } in k) (sym (at-socket (hand_of B past) setup.sockets s no_hand known))

  own-now : manager_of setup payload regions B (e ∷ past) ≡ with_hand s (record (hand_at s here) { state = after_confirm true }) (hears s o (with_desk (learns_offer the_link o) here))
  own-now =
      by-parts setup payload regions B (e ∷ past) (learns_offer the_link o (desk_of setup payload B past))
      (slice_set (each_socket (hand_of B past) setup.sockets) s (record (hand_at s here) { state = WaitsLink }))
      (slice_set (each_socket (conn_of setup payload B past) setup.sockets) s (option_map aim (slice_index_or (each_socket (conn_of setup payload B past) setup.sockets) s None)))
      (length (lendings B past)) (length (free_places setup payload B past))
      desk-own
      (sym (set-socket (hand_of B past) (hand_of B (e ∷ past)) setup.sockets s (λ t d. hand-same B (e ∷ past) past t refl (state-else t d))) ∙ ap (λ h. slice_set (each_socket (hand_of B past) setup.sockets) s h) hand-here)
      (sym (set-socket (conn_of setup payload B past) (conn_of setup payload B (e ∷ past)) setup.sockets s (λ t d. same-conn setup payload B (e ∷ past) past t (route-by B t (state-else t d)) (lendings-stay e past plain-now B) (lent-now B) (end-same B t)))
      ∙ (ap (λ (c : Option (Connection Half)). slice_set (each_socket (conn_of setup payload B past) setup.sockets) s c) conn-here
      ∙ ap (λ (c : Option (Connection Half)). slice_set (each_socket (conn_of setup payload B past) setup.sockets) s (option_map aim c)) (sym (at-socket (conn_of setup payload B past) setup.sockets s None known))))
      (ap (λ (ls : List Lending). length ls) (lendings-stay e past plain-now B)) (same-spare setup payload B (e ∷ past) past (lent-now B))

  theirs-now : manager_of setup payload regions A (e ∷ past) ≡ manager_of setup payload regions A past
  theirs-now =
      by-parts setup payload regions A (e ∷ past) (desk_of setup payload A past) (each_socket (hand_of A past) setup.sockets) (each_socket (conn_of setup payload A past) setup.sockets) (length (lendings A past)) (length (free_places setup payload A past))
      (same-desk setup payload A (e ∷ past) past desk-theirs)
      (same-sockets (hand_of A (e ∷ past)) (hand_of A past) (λ t. hand-same A (e ∷ past) past t refl (state-theirs t)) setup.sockets)
      (same-sockets (conn_of setup payload A (e ∷ past)) (conn_of setup payload A past) (λ t. same-conn setup payload A (e ∷ past) past t (route-by A t (state-theirs t)) (lendings-stay e past plain-now A) (lent-now A) (end-same A t)) setup.sockets)
      (ap (λ (ls : List Lending). length ls) (lendings-stay e past plain-now A)) (same-spare setup payload A (e ∷ past) past (lent-now A))

  keeps-own : (t : ℕ) → keeps_element (end_state B t (e ∷ past)) ≡ keeps_element (end_state B t past)
  keeps-own =
      at-or-beside (λ k. keeps_element (end_state B k (e ∷ past)) ≡ keeps_element (end_state B k past)) s
      (ap (λ st. keeps_element st) state-here ∙ sym (ap (λ st. keeps_element st) state))
      (λ t d. ap (λ st. keeps_element st) (state-else t d))

  pub asks-to-confirm : IsTakenBy setup payload regions B s (ConfirmMessage o) the_link e past
  asks-to-confirm =
      taken-by setup payload regions B s (ConfirmMessage o) the_link Ready e past one known step
      (record {
        reply = ap (λ b. if b then Sent LinkSent else Established) (sym first);
        posts = made-posts ∙ (sym (append-nil (asks_link the_link (ConfirmMessage o) here)) ∙ ap (λ b. asks_link the_link (ConfirmMessage o) here ++ (if b then [] else risen_at s (hears s o here))) (sym first));
        own = own-now ∙ ap (λ b. with_hand s (record (hand_at s here) { state = after_confirm b }) (if b then hears s o (with_desk (learns_offer the_link o) here) else rises_at s (hears s o here))) (sym first);
      })
      theirs-now
      (lendings-kept setup payload e past lendings_are lent-now (offer-stays e past plain-now) (by-side (λ y. (t : ℕ) → keeps_element (end_state y t (e ∷ past)) ≡ keeps_element (end_state y t past)) (λ t. ap (λ st. keeps_element st) (state-theirs t)) keeps-own))

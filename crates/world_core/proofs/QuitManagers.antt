-- B falls back upon the Decline of A, after it has lent: its end gives the element back, and its connection is gone.
use Rattle.smc_num.specs.Keys.{Key}
use Rattle.world_core.proofs.TakenAlone.{IsTakenBy, taken-by}
use Rattle.side_core.specs.Taking.{quits_from}
use Rattle.pipe_model.specs.Messages.{pair_on, serial, act_pair}
use Rattle.side_core.specs.Desk.{most_slots, Desk}
use Rattle.smc_num.specs.Places.{all_places, is_free}
use Rattle.element_ledger.specs.Lendings.{changes_at, freed, Row}
use Rattle.pipe_model.specs.declared.verdict.ClcStep.TheVariants.{Fell}
use Rattle.pipe_model.specs.Replies.{clc_step}
use Rattle.world_core.proofs.EndedRows.{AreOf, others_of, rows-free, spare-more, none-left, others-left}
use Rattle.world_core.specs.Lent.{HavePlaces}
use Rattle.clc_wire.specs.declared.offer.Offer.{Offer}
use Rattle.clc_wire.specs.declared.refusal.Refusal.{Refusal}
use Rattle.pipe_model.specs.Words.{rmbs_of, elements_of}
use Rattle.smc_num.specs.declared.LinkId.{LinkId}
use Rattle.world_core.specs.Wired.{EachItem, keeps_open}
use Rattle.std.proofs.Common.{◌≡◌, ◌∙◌, ℕ, ◌+◌, ◌<◌, ◌==◌, ◌&&◌, not, Bool, true, false, cond, if◌then◌else◌, List, [], ◌∷◌, ◌++◌, length, filter, refl, ap, sym, subst, eq-eqb, append-nil, map}
use Rattle.std.specs.Prelude.{Option, Some, None, option_map, unwrap_or, slice_set}
use Rattle.smc_num.specs.declared.Side.{Side}
use Rattle.smc_num.specs.declared.Side.TheVariants.{A, B}
use Rattle.smc_num.specs.Names.{up_to}
use Rattle.rmb_region.specs.Regions.{Buffer}
use Rattle.clc_wire.specs.declared.message.ClcMessage.TheVariants.{Decline as DeclineMessage}
use Rattle.pipe_model.specs.declared.setup.Setup.{Setup}
use Rattle.pipe_model.specs.declared.event.Event.TheVariants.{Clc}
use Rattle.pipe_model.specs.declared.reply.Reply.TheVariants.{FellBack}
use Rattle.pipe_model.specs.declared.post.Post.{Post}
use Rattle.pipe_model.specs.declared.entry.Entry.{Entry}
use Rattle.pipe_model.specs.History.{Offered, offered}
use Rattle.pipe_model.specs.Fabric.{fabric, act_in, group_of}
use Rattle.pipe_model.specs.Ends.{Half}
use Rattle.pipe_model.specs.Connections.{HasFallen, IsUp, is_up, early_state, end_state, after_loss, named_link, group_on, up_by, items, part, WaitsConfirm}
use Rattle.pipe_model.specs.Keys.{book_of, keys_of}
use Rattle.pipe_model.specs.Lending.{Lending, lendings, lent, returns, free_places, lent_places, lends_by}
use Rattle.pipe_model.specs.Fallback.{is_raw, front, Whole}
use Rattle.pipe_model.specs.Posts.{connection_posts, offered_place, clc_posts, groups_begun}
use Rattle.pipe_model.specs.Lawful.{asked, front_posts}
use Rattle.clc_handshake.specs.Stages.{Hand}
use Rattle.side_core.specs.Records.{Connection, conn_at}
use Rattle.side_core.specs.Manager.{Manager, with_hand, hand_at, no_hand}
use Rattle.world_core.specs.OneLink.{Stage, the_link}
use Rattle.world_core.specs.Sockets.{IsWorld, on_link, IsOffer}
use Rattle.world_core.specs.Played.{IsPlayed}
use Rattle.world_core.specs.Agreement.{IsShaken}
use Rattle.world_core.specs.Managers.{manager_of, desk_of, hand_of, conn_of, end_of, route_of, each_socket, lending_on, heard_on, keeps_element, HasLendings, first_on, rows_of, lending_due}
use Rattle.world_core.proofs.QuietEvents.{by-side, entry-of}
use Rattle.world_core.proofs.QuietEntries.{only-deeds, same-group}
use Rattle.world_core.proofs.Parts.{part-open}
use Rattle.world_core.proofs.PlainPosts.{ArePlain, offer-stays, lends-none, lendings-stay, groups-stay, pairs-stay, serial-stays, first-stays, plain-route}
use Rattle.world_core.proofs.StillEntries.{silent-pipes, end-stays, lent-stays, returns-by, still-desk, keys-stay, book-stays}
use Rattle.world_core.proofs.SameManagers.{SameDesk, SameRoute, same-desk, same-conn, same-spare, desk_from, route_from, rows_from, hand-same, routed-conn, conn_from}
use Rattle.world_core.proofs.KeptManagers.{by-parts, conn-at}
use Rattle.world_core.proofs.Lendings.{lending-due}
use Rattle.world_core.proofs.Tables.{same-sockets, set-socket, at-socket}
use Rattle.world_core.proofs.Plain.{at-or-beside}

module _ (setup : Setup) (payload : List ℕ) (regions : List Buffer) (stage : Stage) (past : List Entry) (one : setup.links ≡ 1) (rmbs : rmbs_of setup B ≡ 1) (world : IsWorld setup stage past) (lendings_are : HasLendings setup payload past) (actor n s : ℕ) (posts : List Post)
    (r : Refusal) (len : ℕ) (ob : Offer) (known : s < setup.sockets) (ours : offered B s past ≡ on_link ob) (offer_is : IsOffer setup B false ob) (state : end_state B s past ≡ WaitsConfirm) (down : is_up B s past ≡ false)
    (places : HavePlaces (lent setup payload B past)) (of : AreOf s (offered_place ob) (lent setup payload B past))
    (at : front payload A s past ≡ Whole (DeclineMessage r) len) (step : clc_step setup payload B s (DeclineMessage r) past ≡ Fell)
    (played : IsPlayed setup payload (entry-of actor (Clc s A) FellBack posts ∷ past) n) (shaken : IsShaken setup (entry-of actor (Clc s A) FellBack posts ∷ past)) where
  abbrev e : Entry
  e = entry-of actor (Clc s A) FellBack posts

  abbrev here : Manager Half
  here = manager_of setup payload regions B past

  abbrev l : Lending
  l = lends_by s the_link ob

  acts : (a : ℕ) (ps : List Post) (y : Side) → act_in y (entry-of a (Clc s A) FellBack ps) past ≡ None
  acts a ps = by-side (λ y. act_in y (entry-of a (Clc s A) FellBack ps) past ≡ None) refl refl

  up_none : (y : Side) (t : ℕ) → up_by y t (Clc s A) FellBack past ≡ None
  up_none = by-side (λ y. (t : ℕ) → up_by y t (Clc s A) FellBack past ≡ None) (λ t. refl) (λ t. refl)

  no-items : (a : ℕ) (ps : List Post) (g t : ℕ) → items payload g t (entry-of a (Clc s A) FellBack ps) past ≡ []
  no-items a ps g t = only-deeds payload stage (entry-of a (Clc s A) FellBack ps) past (let k = world.link in k.fabric_is) refl (acts a ps) up_none g t

  asked-is : asked setup payload past (Clc s A) FellBack ≡ []
  asked-is = ap (λ f. front_posts setup payload B s past f) at ∙ ap (λ st. clc_posts setup payload B s (DeclineMessage r) past st) step

  made-posts : posts ≡ []
  made-posts =
      let m = played.1 in
      m.posts
      ∙ (ap (λ r. let q : Entry = record { actor = 0; event = Clc s A; reply = r; posts = asked setup payload past (Clc s A) r } in q.posts ++ connection_posts setup payload q past) (sym m.reply)
      ∙ (ap (λ (ps : List Post). asked setup payload past (Clc s A) FellBack ++ ps) (silent-pipes setup payload past (entry-of 0 (Clc s A) FellBack (asked setup payload past (Clc s A) FellBack)) (no-items 0 (asked setup payload past (Clc s A) FellBack)))
      ∙ (append-nil (asked setup payload past (Clc s A) FellBack) ∙ asked-is)))

  plain-now : ArePlain posts
  plain-now = subst (λ (ps : List Post). ArePlain ps) (sym made-posts) tt

  open-now : (g t : ℕ) → EachItem keeps_open (part payload g t (e ∷ past))
  open-now g t = part-open setup payload g t (e ∷ past) n played shaken

  lent-a : lent setup payload A (e ∷ past) ≡ lent setup payload A past
  lent-a = lent-stays setup payload A e past refl open-now (lends-none e past plain-now A) (λ t. refl)

  filter-alike : (f g : Lending → Bool) → ((k : Lending) → f k ≡ g k) → (ks : List Lending) → filter f ks ≡ filter g ks
  filter-alike f g same [] = refl
  filter-alike f g same (k ∷ ks) = ap (λ b. cond b (k ∷ filter f ks) (filter f ks)) (same k) ∙ ap (λ (rs : List Lending). cond (g k) (k ∷ rs) rs) (filter-alike f g same ks)

  lent-b : lent setup payload B (e ∷ past) ≡ others_of s (lent setup payload B past)
  lent-b =
      ap (λ (ls : List Lending). ls ++ filter (λ k. not (returns setup payload B e past k)) (lent setup payload B past)) (lends-none e past plain-now B)
      ∙ filter-alike (λ k. not (returns setup payload B e past k)) (λ k. not ((k.s == s) && true)) (λ k. ap (λ b. not b) (returns-by setup payload B e past refl open-now k)) (lent setup payload B past)

  found : lending_on s (lent setup payload B past) ≡ Some l
  found = lendings_are.each B s ∙ lending-due B s past (record { link = the_link; offer = ob }) ours (ap (λ st. keeps_element st) state)

  -- the desks
  desk-a : SameDesk setup payload A (e ∷ past) past
  desk-a = still-desk setup payload stage A e past world.link refl (acts actor posts A) plain-now refl lent-a

  rows-b : rows_of setup payload B (e ∷ past) ≡ map (changes_at (offered_place ob) freed) (rows_of setup payload B past)
  rows-b =
      ap (λ (all : List Lending). rows_from setup B all (lent setup payload B (e ∷ past))) (lendings-stay e past plain-now B)
      ∙ (ap (λ (now : List Lending). rows_from setup B (lendings B past) now) lent-b
      ∙ rows-free s l (lendings B past) (lent setup payload B past) places found of (all_places (rmbs_of setup B) (elements_of setup B)))

  desk-b : desk_of setup payload B (e ∷ past) ≡ (let d : Desk = desk_of setup payload B past in let k : Desk = record d { rows = map (changes_at (offered_place ob) freed) d.rows } in k)
  desk-b =
      ap (λ k. desk_from setup B (fabric past) k (map (λ k. pair_on B k (e ∷ past)) (up_to most_slots)) (serial B (e ∷ past)) (keys_of B (e ∷ past)) (book_of B (e ∷ past)) (rows_of setup payload B (e ∷ past)) (first_on B (e ∷ past))) (groups-stay e past plain-now)
      ∙ (ap (λ (ns : List ℕ). desk_from setup B (fabric past) (groups_begun past) ns (serial B (e ∷ past)) (keys_of B (e ∷ past)) (book_of B (e ∷ past)) (rows_of setup payload B (e ∷ past)) (first_on B (e ∷ past))) (pairs-stay e past plain-now B (ap (λ a. act_pair a) (acts actor posts B)))
      ∙ (ap (λ k. desk_from setup B (fabric past) (groups_begun past) (map (λ k. pair_on B k past) (up_to most_slots)) k (keys_of B (e ∷ past)) (book_of B (e ∷ past)) (rows_of setup payload B (e ∷ past)) (first_on B (e ∷ past))) (serial-stays e past plain-now B (ap (λ a. act_pair a) (acts actor posts B)))
      ∙ (ap (λ ks. desk_from setup B (fabric past) (groups_begun past) (map (λ k. pair_on B k past) (up_to most_slots)) (serial B past) ks (book_of B (e ∷ past)) (rows_of setup payload B (e ∷ past)) (first_on B (e ∷ past))) (keys-stay setup payload stage B e past world.link refl (acts actor posts B) plain-now)
      ∙ (ap (λ (b : List Key). desk_from setup B (fabric past) (groups_begun past) (map (λ k. pair_on B k past) (up_to most_slots)) (serial B past) (keys_of B past) b (rows_of setup payload B (e ∷ past)) (first_on B (e ∷ past))) (book-stays setup payload stage B e past world.link refl (acts actor posts B) plain-now refl)
      ∙ (ap (λ (rs : List Row). desk_from setup B (fabric past) (groups_begun past) (map (λ k. pair_on B k past) (up_to most_slots)) (serial B past) (keys_of B past) (book_of B past) rs (first_on B (e ∷ past))) rows-b
      ∙ ap (λ k. desk_from setup B (fabric past) (groups_begun past) (map (λ k. pair_on B k past) (up_to most_slots)) (serial B past) (keys_of B past) (book_of B past) (map (changes_at (offered_place ob) freed) (rows_of setup payload B past)) k) (first-stays e past plain-now B))))))

  -- the handshakes
  early-a : (t : ℕ) → early_state A t (e ∷ past) ≡ early_state A t past
  early-a t = ap (λ b. after_loss b (group_on t past) (early_state A t past)) (same-group (group_on t past) (group_of A past) (group_of A past) refl)

  early-b : (t : ℕ) → early_state B t (e ∷ past) ≡ (if t == s then HasFallen else early_state B t past)
  early-b t = ap (λ b. after_loss b (group_on t past) (if t == s then HasFallen else early_state B t past)) (same-group (group_on t past) (group_of B past) (group_of B past) refl)

  state-a : (t : ℕ) → end_state A t (e ∷ past) ≡ end_state A t past
  state-a t = ap (λ a. if is_up A t past then IsUp else a) (early-a t)

  state-else : (t : ℕ) → (t == s) ≡ false → end_state B t (e ∷ past) ≡ end_state B t past
  state-else t d = ap (λ a. if is_up B t past then IsUp else a) (early-b t ∙ ap (λ b. if b then HasFallen else early_state B t past) d)

  state-s : end_state B s (e ∷ past) ≡ HasFallen
  state-s = ap (λ b. if b then IsUp else early_state B s (e ∷ past)) down ∙ (early-b s ∙ ap (λ b. if b then HasFallen else early_state B s past) (eq-eqb s s refl))

  hand-s : hand_of B (e ∷ past) s ≡ record (hand_at s here) { state = HasFallen }
  hand-s = ap (λ a. let h : Hand = record { raw = is_raw s past; state = a } in h) state-s ∙ ap (λ (h : Hand). let k : Hand = record h { state = HasFallen } in k) (sym (at-socket (hand_of B past) setup.sockets s no_hand known))

  route-by : (y : Side) (t : ℕ) → is_up y t (e ∷ past) ≡ is_up y t past → end_state y t (e ∷ past) ≡ end_state y t past → SameRoute y (e ∷ past) past t
  route-by y t up same = plain-route e past plain-now y t up same

  end-same : (y : Side) (t : ℕ) → end_of setup payload y t (e ∷ past) ≡ end_of setup payload y t past
  end-same y t = end-stays setup payload past e (no-items actor posts) y t (ap (λ q. unwrap_or (option_map (λ (link : LinkId). link.group) (option_map (λ (p : Offered). p.link) q)) 0) (offer-stays e past plain-now B t))

  -- the connections
  conn-s : conn_of setup payload B (e ∷ past) s ≡ None
  conn-s = ap (λ q. option_map (λ k. let c : Connection Half = record { route = route_of B s (e ∷ past) k; end = end_of setup payload B s (e ∷ past) } in c) q) (ap (λ (ls : List Lending). lending_on s ls) lent-b ∙ none-left s (lent setup payload B past))

  lending-else : (t : ℕ) → (t == s) ≡ false → lending_on t (lent setup payload B (e ∷ past)) ≡ lending_on t (lent setup payload B past)
  lending-else t d = ap (λ (ls : List Lending). lending_on t ls) lent-b ∙ others-left s t (lent setup payload B past) d

  conn-else : (t : ℕ) → (t == s) ≡ false → conn_of setup payload B (e ∷ past) t ≡ conn_of setup payload B past t
  conn-else t d =
      routed-conn setup payload B (e ∷ past) past t (route-by B t refl (state-else t d))
      ∙ (ap (λ (all : List Lending). conn_from t (named_link t past) (is_up B t past) all (heard_on B t past) (end_of setup payload B t (e ∷ past)) (lent setup payload B (e ∷ past))) (lendings-stay e past plain-now B)
      ∙ (ap (λ h. conn_from t (named_link t past) (is_up B t past) (lendings B past) (heard_on B t past) h (lent setup payload B (e ∷ past))) (end-same B t)
      ∙ ap (λ q. option_map (λ k. let c : Connection Half = record { route = route_from (named_link t past) (is_up B t past) (lendings B past) (heard_on B t past) k; end = end_of setup payload B t past } in c) q) (lending-else t d)))

  conn-was : conn_at s here.records ≡ Some (record { route = route_of B s past l; end = end_of setup payload B s past })
  conn-was = conn-at setup payload regions B past s known ∙ ap (λ q. option_map (λ k. let c : Connection Half = record { route = route_of B s past k; end = end_of setup payload B s past } in c) q) found

  spare-b : length (free_places setup payload B (e ∷ past)) ≡ length (free_places setup payload B past) + 1
  spare-b =
      ap (λ (ls : List Lending). length (filter (is_free (lent_places ls)) (all_places (rmbs_of setup B) (elements_of setup B)))) lent-b
      ∙ (ap (λ k. length (filter (is_free (lent_places (others_of s (lent setup payload B past)))) (all_places k (elements_of setup B)))) rmbs
      ∙ (spare-more s l (lendings B past) (lent setup payload B past) places found of (elements_of setup B) offer_is.rmb offer_is.low offer_is.high
      ∙ ap (λ k. length (filter (is_free (lent_places (lent setup payload B past))) (all_places k (elements_of setup B))) + 1) (sym rmbs)))

  own-now : manager_of setup payload regions B (e ∷ past) ≡ with_hand s (record (hand_at s here) { state = HasFallen }) (quits_from s (conn_at s here.records) here)
  own-now =
      by-parts setup payload regions B (e ∷ past) (let d : Desk = desk_of setup payload B past in let k : Desk = record d { rows = map (changes_at (offered_place ob) freed) d.rows } in k)
      (slice_set (each_socket (hand_of B past) setup.sockets) s (record (hand_at s here) { state = HasFallen })) (slice_set (each_socket (conn_of setup payload B past) setup.sockets) s None)
      (length (lendings B past)) (length (free_places setup payload B past) + 1)
      desk-b
      (sym (set-socket (hand_of B past) (hand_of B (e ∷ past)) setup.sockets s (λ t d. hand-same B (e ∷ past) past t refl (state-else t d))) ∙ ap (λ h. slice_set (each_socket (hand_of B past) setup.sockets) s h) hand-s)
      (sym (set-socket (conn_of setup payload B past) (conn_of setup payload B (e ∷ past)) setup.sockets s conn-else) ∙ ap (λ (k : Option (Connection Half)). slice_set (each_socket (conn_of setup payload B past) setup.sockets) s k) conn-s)
      (ap (λ (ls : List Lending). length ls) (lendings-stay e past plain-now B)) spare-b
      ∙ ap (λ q. with_hand s (record (hand_at s here) { state = HasFallen }) (quits_from s q here)) (sym conn-was)

  theirs-now : manager_of setup payload regions A (e ∷ past) ≡ manager_of setup payload regions A past
  theirs-now =
      by-parts setup payload regions A (e ∷ past) (desk_of setup payload A past) (each_socket (hand_of A past) setup.sockets) (each_socket (conn_of setup payload A past) setup.sockets) (length (lendings A past)) (length (free_places setup payload A past))
      (same-desk setup payload A (e ∷ past) past desk-a) (same-sockets (hand_of A (e ∷ past)) (hand_of A past) (λ t. hand-same A (e ∷ past) past t refl (state-a t)) setup.sockets)
      (same-sockets (conn_of setup payload A (e ∷ past)) (conn_of setup payload A past) (λ t. same-conn setup payload A (e ∷ past) past t (route-by A t refl (state-a t)) (lendings-stay e past plain-now A) lent-a (end-same A t)) setup.sockets)
      (ap (λ (ls : List Lending). length ls) (lendings-stay e past plain-now A)) (same-spare setup payload A (e ∷ past) past lent-a)

  due-by : (y : Side) (t : ℕ) → end_state y t (e ∷ past) ≡ end_state y t past → lending_due y t (e ∷ past) ≡ lending_due y t past
  due-by y t st =
      ap (λ st. if keeps_element st then option_map (λ (o : Offered). lends_by t o.link o.offer) (offered y t (e ∷ past)) else None) st
      ∙ ap (λ q. if keeps_element (end_state y t past) then option_map (λ (o : Offered). lends_by t o.link o.offer) q else None) (offer-stays e past plain-now y t)

  lendings-now : HasLendings setup payload (e ∷ past)
  lendings-now = record { each = by-side (λ y. (t : ℕ) → lending_on t (lent setup payload y (e ∷ past)) ≡ lending_due y t (e ∷ past)) of_a of_b }
    where
      of_a : (t : ℕ) → lending_on t (lent setup payload A (e ∷ past)) ≡ lending_due A t (e ∷ past)
      of_a t = ap (λ (ls : List Lending). lending_on t ls) lent-a ∙ (lendings_are.each A t ∙ sym (due-by A t (state-a t)))

      of_b : (t : ℕ) → lending_on t (lent setup payload B (e ∷ past)) ≡ lending_due B t (e ∷ past)
      of_b =
          at-or-beside (λ k. lending_on k (lent setup payload B (e ∷ past)) ≡ lending_due B k (e ∷ past)) s
          (ap (λ (ls : List Lending). lending_on s ls) lent-b ∙ (none-left s (lent setup payload B past)
          ∙ sym (ap (λ st. if keeps_element st then option_map (λ (o : Offered). lends_by s o.link o.offer) (offered B s (e ∷ past)) else None) state-s)))
          (λ t d. lending-else t d ∙ (lendings_are.each B t ∙ sym (due-by B t (state-else t d))))

  pub confirm-refused : (link : LinkId) → IsTakenBy setup payload regions B s (DeclineMessage r) link e past
  confirm-refused link = taken-by setup payload regions B s (DeclineMessage r) link Fell e past one known step (record { reply = refl; posts = made-posts; own = own-now }) theirs-now lendings-now

-- A confirms in first contact: the lowest free element is lent to a new connection of the socket in a new group, the link is made, and
-- the key that the Accept tells is learnt; in the manager of B the link is made.
use Rattle.world_core.proofs.OpenEnds.{stays-out}
use Rattle.std.specs.List.{cons_option}
use Rattle.pipe_model.specs.Words.{rmbs_of, elements_of}
use Rattle.std.proofs.Common.{◌≡◌, ◌∙◌, ℕ, ◌+◌, ◌-◌, ◌<◌, ◌==◌, not, true, false, cond, if◌then◌else◌, List, [], ◌∷◌, ◌++◌, length, map, filter, refl, ap, sym, subst, eq-eqb, arith, suc, zero}
use Rattle.std.specs.Prelude.{Option, Some, None, option_map, unwrap_or, slice_set, slice_index_or}
use Rattle.std.specs.Option.{option_or}
use Rattle.smc_num.specs.declared.Side.{Side}
use Rattle.smc_num.specs.declared.Side.TheVariants.{A, B}
use Rattle.smc_num.specs.declared.LinkId.{LinkId}
use Rattle.smc_num.specs.Names.{up_to, head, no_link}
use Rattle.smc_num.specs.Links.{live_links}
use Rattle.smc_num.specs.Places.{rmb_at, all_places, is_free}
use Rattle.rmb_region.specs.Regions.{Buffer}
use Rattle.clc_wire.specs.declared.offer.Offer.{Offer}
use Rattle.clc_wire.specs.declared.message.ClcMessage.TheVariants.{Confirm as ConfirmMessage}
use Rattle.element_ledger.specs.Lendings.{Row, changes_at, lends as lends_row, place_of}
use Rattle.pipe_model.specs.declared.setup.Setup.{Setup}
use Rattle.pipe_model.specs.declared.event.Event.TheVariants.{Clc}
use Rattle.pipe_model.specs.declared.reply.Reply.TheVariants.{Sent}
use Rattle.pipe_model.specs.declared.reply.SentKind.TheVariants.{Confirm as ConfirmSent}
use Rattle.pipe_model.specs.declared.post.Post.TheVariants.{Clc as ClcPost}
use Rattle.pipe_model.specs.declared.entry.Entry.{Entry}
use Rattle.pipe_model.specs.History.{Offered, offered, offered_if}
use Rattle.pipe_model.specs.Fabric.{Fabric, table_of, loses_group_with, made_on}
use Rattle.pipe_model.specs.Ends.{Half, fresh}
use Rattle.pipe_model.specs.Pipe.{Item, half, pipe}
use Rattle.pipe_model.specs.Connections.{WaitsConfirm, WaitsLink, IsUp, is_up, early_state, end_state, group_on, items, part, after_loss}
use Rattle.pipe_model.specs.Lending.{Lending, lendings, lends_by, lent, lent_places, returns, free_places, pipe_of, terms_of, leaves_handshake}
use Rattle.pipe_model.specs.Fallback.{is_raw}
use Rattle.pipe_model.specs.Messages.{pair_on, serial, pair_number, new_pair}
use Rattle.pipe_model.specs.Posts.{offered_place}
use Rattle.clc_handshake.specs.Stages.{Hand}
use Rattle.side_core.specs.Records.{Connection, new_route}
use Rattle.side_core.specs.Desk.{Desk, most_slots, next_element, begins_group, makes_link, learns_offer, lends_next}
use Rattle.side_core.specs.Manager.{Manager, hand_at, with_hand, no_hand}
use Rattle.side_core.specs.Taking.{hears, starts, with_desk}
use Rattle.world_core.specs.OneLink.{the_link, Begun, Made, fabric_at, groups_at, keys_at, book_at, IsAtStage}
use Rattle.world_core.specs.Wired.{EachItem, keeps_open}
use Rattle.world_core.specs.Managers.{manager_of, desk_of, hand_of, conn_of, end_of, route_of, rows_of, first_on, each_socket, lending_on, heard_on, awaits_confirm, keeps_element, epoch_in, lending_due, HasLendings}
use Rattle.world_core.proofs.QuietEvents.{by-side, entry-of}
use Rattle.world_core.proofs.QuietEntries.{all-stay}
use Rattle.world_core.proofs.StartedRows.{rows-change, spare-less, next-is, epoch-here, eqb-sym, conn-beside}
use Rattle.world_core.proofs.SameManagers.{desk_from, rows_from, same-conn, same-spare, hand-same, heard-same}
use Rattle.world_core.proofs.LinkManagers.{stage-desk}
use Rattle.world_core.proofs.KeptManagers.{by-parts}
use Rattle.world_core.proofs.Lendings.{lending-due, due-same}
use Rattle.world_core.proofs.Tables.{same-sockets, set-socket, at-socket, sockets-long}
use Rattle.world_core.proofs.Plain.{and-false, plus-none, at-or-beside}
use Rattle.std.proofs.Math.Numerals.{add-one}

-- the entry of a Confirm of first contact
abbrev pub confirm_entry : ℕ → ℕ → Offer → Entry
confirm_entry actor s o = entry-of actor (Clc s B) (Sent ConfirmSent) (ClcPost A s (Some the_link) (ConfirmMessage o) ∷ [])

-- one place set twice, and what stands there then
pub set-set : {X : Type 0} (xs : List X) (i : ℕ) (a b : X) → slice_set (slice_set xs i a) i b ≡ slice_set xs i b
set-set [] i a b = refl
set-set (x ∷ xs) zero a b = refl
set-set (x ∷ xs) (suc i) a b = ap (λ ys. x ∷ ys) (set-set xs i a b)

pub get-set : {X : Type 0} (xs : List X) (i : ℕ) (a d : X) → i < length xs → slice_index_or (slice_set xs i a) i d ≡ a
get-set [] i a d l = absurd (omega (arith, l))
get-set (x ∷ xs) zero a d l = refl
get-set (x ∷ xs) (suc i) a d l = get-set xs i a d (omega (arith, l))

-- how many links were made
made-now : (setup : Setup) (s : ℕ) → setup.links ≡ 1 → map (λ k. made_on k (fabric_at (Made s))) (up_to setup.links) ≡ slice_set (map (λ k. made_on k (fabric_at (Begun s))) (up_to setup.links)) 0 1
made-now setup s one =
    ap (λ n. map (λ k. made_on k (fabric_at (Made s))) (up_to n)) one ∙ sym (ap (λ n. slice_set (map (λ k. made_on k (fabric_at (Begun s))) (up_to n)) 0 1) one)

-- the desks: at A a group begins, at both the link is made
abbrev desk_a : Setup → List ℕ → ℕ → List Row → ℕ → ℕ → ℕ → ℕ → List ℕ → Desk
desk_a setup pairs number rows key rmb first s made = record (desk_from setup A (fabric_at (Made s)) 1 pairs number (keys_at A (Made s)) (record { key = key; rmb = rmb; link = the_link } ∷ []) rows first) { links = record { slots = setup.links; known = (fabric_at (Made s)).a.table; made = made } }

desk-begins : (setup : Setup) (s : ℕ) (pairs : List ℕ) (number : ℕ) (rows rows2 : List Row) (was : ℕ) (ob : Offer) → setup.links ≡ 1 → ob.key ≡ 513 → rmb_at ob.address ≡ 1
    → desk_from setup A (fabric_at (Made s)) (groups_at (Made s)) (slice_set pairs 0 (pair_number (number + 1) 1)) (number + 1) (keys_at A (Made s)) (book_at A (Made s)) rows2 s
    ≡ (let d : Desk = desk_from setup A (fabric_at (Begun s)) (groups_at (Begun s)) pairs number (keys_at A (Begun s)) (book_at A (Begun s)) rows was in let k : Desk = record (learns_offer the_link ob (makes_link the_link (begins_group s the_link 1 d))) { rows = rows2 } in k)
desk-begins setup s pairs number rows rows2 was ob one key rmb =
    ap (λ k. desk_a setup (slice_set pairs 0 (pair_number (number + 1) 1)) (number + 1) rows2 k 1 s s (map (λ k. made_on k (fabric_at (Made s))) (up_to setup.links))) (sym key)
    ∙ (ap (λ r. desk_a setup (slice_set pairs 0 (pair_number (number + 1) 1)) (number + 1) rows2 ob.key r s s (map (λ k. made_on k (fabric_at (Made s))) (up_to setup.links))) (sym rmb)
    ∙ ap (λ (ms : List ℕ). desk_a setup (slice_set pairs 0 (pair_number (number + 1) 1)) (number + 1) rows2 ob.key (rmb_at ob.address) s s ms) (made-now setup s one))

desk-theirs : (setup : Setup) (s : ℕ) (pairs : List ℕ) (number : ℕ) (rows : List Row) (was : ℕ) → setup.links ≡ 1
    → desk_from setup B (fabric_at (Made s)) (groups_at (Made s)) pairs number (keys_at B (Made s)) (book_at B (Made s)) rows was
    ≡ makes_link the_link (desk_from setup B (fabric_at (Begun s)) (groups_at (Begun s)) pairs number (keys_at B (Begun s)) (book_at B (Begun s)) rows was)
desk-theirs setup s pairs number rows was one =
    ap (λ (ms : List ℕ). let d : Desk = desk_from setup B (fabric_at (Made s)) (groups_at (Made s)) pairs number (keys_at B (Made s)) (book_at B (Made s)) rows was in let k : Desk = record d { links = record d.links { made = ms } } in k) (made-now setup s one)

module _ (setup : Setup) (payload : List ℕ) (regions : List Buffer) (past : List Entry) (s actor : ℕ) (o ob : Offer) (is_first : o.first ≡ true)
    (was : IsAtStage setup (Begun s) past) (now : IsAtStage setup (Made s) (confirm_entry actor s o ∷ past)) (lendings_are : HasLendings setup payload past) (known : s < setup.sockets) (links : setup.links ≡ 1)
    (one : rmbs_of setup A ≡ 1) (free : head (free_places setup payload A past) ≡ Some (offered_place o)) (rmb : rmb_at o.address ≡ 1) (token : o.token ≡ length (lendings A past) + 1)
    (their_key : ob.key ≡ 513) (their_rmb : rmb_at ob.address ≡ 1)
    (theirs : offered B s past ≡ Some (record { link = the_link; offer = ob })) (none_a : offered A s past ≡ None) (down : is_up A s past ≡ false) (waits : end_state B s past ≡ WaitsConfirm)
    (no_loss : (y : Side) (g : ℕ) → loses_group_with y g (confirm_entry actor s o) past ≡ false)
    (open_items : (g t : ℕ) → EachItem keeps_open (part payload g t (confirm_entry actor s o ∷ past))) (no_items : (g t : ℕ) → items payload g t (confirm_entry actor s o) past ≡ [])
    (fresh_end : half A (pipe_of setup payload 1 s past) ≡ record (fresh setup.number) { live = live_links (table_of A past) }) where
  abbrev e : Entry
  e = confirm_entry actor s o

  abbrev here : Manager Half
  here = manager_of setup payload regions A past

  abbrev l : Lending
  l = lends_by s the_link o

  stays : (y : Side) (t : ℕ) → leaves_handshake y t (Clc s B) (Sent ConfirmSent) ≡ false
  stays = by-side (λ y. (t : ℕ) → leaves_handshake y t (Clc s B) (Sent ConfirmSent) ≡ false) (λ t. and-false (t == s)) (λ t. refl)

  returns-none : (y : Side) (k : Lending) → returns setup payload y e past k ≡ false
  returns-none y k = stays-out setup payload e past y k (stays y k.s) (no_loss y k.group) (open_items k.group k.s)

  lent-a : lent setup payload A (e ∷ past) ≡ l ∷ lent setup payload A past
  lent-a = ap (λ (ls : List Lending). l ∷ ls) (all-stay (λ k. not (returns setup payload A e past k)) (lent setup payload A past) (λ k. ap (λ b. not b) (returns-none A k)))

  lent-b : lent setup payload B (e ∷ past) ≡ lent setup payload B past
  lent-b = all-stay (λ k. not (returns setup payload B e past k)) (lent setup payload B past) (λ k. ap (λ b. not b) (returns-none B k))

  rows-a : rows_of setup payload A (e ∷ past) ≡ map (changes_at (offered_place o) (lends_row s)) (rows_of setup payload A past)
  rows-a = ap (λ (ls : List Lending). rows_from setup A (l ∷ lendings A past) ls) lent-a ∙ rows-change l (lendings A past) (lent setup payload A past) (all_places (rmbs_of setup A) (elements_of setup A))

  -- the queue pair
  pair-a : new_pair A e past ≡ 1
  pair-a = ap (λ b. 0 + ((if b then 1 else 0) + 0)) is_first

  serial-a : serial A (e ∷ past) ≡ serial A past + 1
  serial-a = ap (λ n. serial A past + (if n == 0 then 0 else 1)) pair-a

  pairs-a : map (λ k. pair_on A k (e ∷ past)) (up_to most_slots) ≡ slice_set (map (λ k. pair_on A k past) (up_to most_slots)) 0 (pair_number (serial A past + 1) 1)
  pairs-a = ap (λ n. map (λ k. if n == k then pair_number (serial A past + 1) k else pair_on A k past) (up_to most_slots)) pair-a

  first-a : first_on A (e ∷ past) ≡ s
  first-a = ap (λ b. unwrap_or (head (cons_option (if b then Some s else None) [])) (first_on A past)) is_first

  -- the desk before the element is lent
  abbrev desk1 : Desk
  desk1 = learns_offer the_link ob (makes_link the_link (begins_group s the_link 1 (desk_of setup payload A past)))

  next-element : next_element desk1 ≡ record { rmb = rmb_at o.address; index = o.index; epoch = epoch_in (offered_place o) (lendings A past) + 1 }
  next-element = next-is setup payload A past one (offered_place o) free

  desk-a : desk_of setup payload A (e ∷ past) ≡ lends_next s desk1
  desk-a =
      stage-desk setup payload A (Made s) (e ∷ past) now
      ∙ (ap (λ (ns : List ℕ). desk_from setup A (fabric_at (Made s)) (groups_at (Made s)) ns (serial A (e ∷ past)) (keys_at A (Made s)) (book_at A (Made s)) (rows_of setup payload A (e ∷ past)) (first_on A (e ∷ past))) pairs-a
      ∙ (ap (λ k. desk_from setup A (fabric_at (Made s)) (groups_at (Made s)) (slice_set (map (λ k. pair_on A k past) (up_to most_slots)) 0 (pair_number (serial A past + 1) 1)) k (keys_at A (Made s)) (book_at A (Made s)) (rows_of setup payload A (e ∷ past)) (first_on A (e ∷ past))) serial-a
      ∙ (ap (λ k. desk_from setup A (fabric_at (Made s)) (groups_at (Made s)) (slice_set (map (λ k. pair_on A k past) (up_to most_slots)) 0 (pair_number (serial A past + 1) 1)) (serial A past + 1) (keys_at A (Made s)) (book_at A (Made s)) (rows_of setup payload A (e ∷ past)) k) first-a
      ∙ (desk-begins setup s (map (λ k. pair_on A k past) (up_to most_slots)) (serial A past) (rows_of setup payload A past) (rows_of setup payload A (e ∷ past)) (first_on A past) ob links their_key their_rmb
      ∙ (ap (λ (d : Desk). let k : Desk = record (learns_offer the_link ob (makes_link the_link (begins_group s the_link 1 d))) { rows = rows_of setup payload A (e ∷ past) } in k) (sym (stage-desk setup payload A (Begun s) past was))
      ∙ ap (λ (rs : List Row). let k : Desk = record desk1 { rows = rs } in k) (rows-a ∙ ap (λ el. map (changes_at (place_of el) (lends_row s)) desk1.rows) (sym next-element)))))))

  desk-b : desk_of setup payload B (e ∷ past) ≡ makes_link the_link (desk_of setup payload B past)
  desk-b =
      stage-desk setup payload B (Made s) (e ∷ past) now
      ∙ (ap (λ k. desk_from setup B (fabric_at (Made s)) (groups_at (Made s)) (map (λ k. pair_on B k past) (up_to most_slots)) k (keys_at B (Made s)) (book_at B (Made s)) (rows_of setup payload B (e ∷ past)) (first_on B past)) (plus-none (serial B past))
      ∙ (ap (λ (ls : List Lending). desk_from setup B (fabric_at (Made s)) (groups_at (Made s)) (map (λ k. pair_on B k past) (up_to most_slots)) (serial B past) (keys_at B (Made s)) (book_at B (Made s)) (rows_from setup B (lendings B past) ls) (first_on B past)) lent-b
      ∙ (desk-theirs setup s (map (λ k. pair_on B k past) (up_to most_slots)) (serial B past) (rows_of setup payload B past) (first_on B past) links
      ∙ ap (λ d. makes_link the_link d) (sym (stage-desk setup payload B (Begun s) past was)))))

  -- the handshakes
  early-a : (t : ℕ) → early_state A t (e ∷ past) ≡ (if t == s then WaitsLink else early_state A t past)
  early-a t = ap (λ b. after_loss b (group_on t past) (if t == s then WaitsLink else early_state A t past)) (no_loss A (group_on t past))

  early-b : (t : ℕ) → early_state B t (e ∷ past) ≡ early_state B t past
  early-b t = ap (λ b. after_loss b (group_on t past) (early_state B t past)) (no_loss B (group_on t past))

  state-else : (t : ℕ) → (t == s) ≡ false → end_state A t (e ∷ past) ≡ end_state A t past
  state-else t d = ap (λ a. if is_up A t past then IsUp else a) (early-a t ∙ ap (λ b. if b then WaitsLink else early_state A t past) d)

  state-b : (t : ℕ) → end_state B t (e ∷ past) ≡ end_state B t past
  state-b t = ap (λ a. if is_up B t past then IsUp else a) (early-b t)

  state-here : end_state A s (e ∷ past) ≡ WaitsLink
  state-here = ap (λ b. if b then IsUp else early_state A s (e ∷ past)) down ∙ (early-a s ∙ ap (λ b. if b then WaitsLink else early_state A s past) (eq-eqb s s refl))

  hand-here : hand_of A (e ∷ past) s ≡ record (hand_at s here) { state = WaitsLink }
  hand-here =
      ap (λ a. let h : Hand = record { raw = is_raw s past; state = a } in h) state-here
      ∙ ap (λ (h : Hand). let k : Hand = record h { state = WaitsLink } in k) (sym (at-socket (hand_of A past) setup.sockets s no_hand known))

  -- the offers
  offer-a : offered A s (e ∷ past) ≡ Some (record { link = the_link; offer = o })
  offer-a = ap (λ b. option_or (head (cons_option (offered_if b the_link o) [])) (offered A s past)) (eq-eqb s s refl)

  offer-else : (t : ℕ) → (t == s) ≡ false → offered A t (e ∷ past) ≡ offered A t past
  offer-else t d = ap (λ b. option_or (head (cons_option (offered_if b the_link o) [])) (offered A t past)) d

  -- the new connection
  lending-here : lending_on s (lent setup payload A (e ∷ past)) ≡ Some l
  lending-here = ap (λ (ls : List Lending). lending_on s ls) lent-a ∙ ap (λ b. cond b (Some l) (lending_on s (lent setup payload A past))) (eq-eqb s s refl)

  lending-else : (t : ℕ) → (t == s) ≡ false → lending_on t (lent setup payload A (e ∷ past)) ≡ lending_on t (lent setup payload A past)
  lending-else t d = ap (λ (ls : List Lending). lending_on t ls) lent-a ∙ ap (λ b. cond b (Some l) (lending_on t (lent setup payload A past))) (eqb-sym s t ∙ d)

  no-live : live_links (table_of A past) ≡ []
  no-live = ap (λ (f : Fabric). live_links f.a.table) was.fabric_is

  end-by : (y : Side) (t : ℕ) → end_of setup payload y t (e ∷ past) ≡ end_of setup payload y t past
  end-by y t = ap (λ (is : List Item). half y (pipe (terms_of setup) (is ++ part payload (group_on t past) t past))) (no_items (group_on t past) t)

  end-here : end_of setup payload A s (e ∷ past) ≡ record (fresh setup.number) { live = [] }
  end-here =
      end-by A s
      ∙ (ap (λ q. let g : ℕ = unwrap_or (option_map (λ (link : LinkId). link.group) (option_map (λ (p : Offered). p.link) q)) 0 in half A (pipe_of setup payload g s past)) theirs
      ∙ (fresh_end ∙ ap (λ (ls : List LinkId). record (fresh setup.number) { live = ls }) no-live))

  -- as it begins, and as it has heard the offer of B
  abbrev new_conn : Connection Half
  new_conn = record { route = new_route the_link (next_element desk1) (length (lendings A past) + 1); end = record (fresh setup.number) { live = [] } }

  abbrev aimed_conn : Connection Half
  aimed_conn = record new_conn { route = record new_conn.route { peer = Some ob } }

  conn-here : conn_of setup payload A (e ∷ past) s ≡ Some aimed_conn
  conn-here =
      ap (λ q. option_map (λ k. let c : Connection Half = record { route = route_of A s (e ∷ past) k; end = end_of setup payload A s (e ∷ past) } in c) q) lending-here
      ∙ (ap (λ q. Some (record { route = record { link = unwrap_or (option_map (λ (p : Offered). p.link) q) no_link; up = is_up A s past; element = record { rmb = rmb_at o.address; index = o.index; epoch = epoch_in (offered_place o) (l ∷ lendings A past) }; token = o.token; peer = heard_on A s (e ∷ past) }; end = end_of setup payload A s (e ∷ past) })) theirs
      ∙ (ap (λ b. Some (record { route = record { link = the_link; up = b; element = record { rmb = rmb_at o.address; index = o.index; epoch = epoch_in (offered_place o) (l ∷ lendings A past) }; token = o.token; peer = heard_on A s (e ∷ past) }; end = end_of setup payload A s (e ∷ past) })) down
      ∙ (ap (λ n. Some (record { route = record { link = the_link; up = false; element = record { rmb = rmb_at o.address; index = o.index; epoch = n }; token = o.token; peer = heard_on A s (e ∷ past) }; end = end_of setup payload A s (e ∷ past) })) (epoch-here l (lendings A past) (lent setup payload A past))
      ∙ (ap (λ el. Some (record { route = record { link = the_link; up = false; element = el; token = o.token; peer = heard_on A s (e ∷ past) }; end = end_of setup payload A s (e ∷ past) })) (sym next-element)
      ∙ (ap (λ n. Some (record { route = record { link = the_link; up = false; element = next_element desk1; token = n; peer = heard_on A s (e ∷ past) }; end = end_of setup payload A s (e ∷ past) })) token
      ∙ (ap (λ st. Some (record { route = record { link = the_link; up = false; element = next_element desk1; token = length (lendings A past) + 1; peer = if awaits_confirm st then None else option_map (λ (p : Offered). p.offer) (offered B s past) }; end = end_of setup payload A s (e ∷ past) })) state-here
      ∙ (ap (λ q. Some (record { route = record { link = the_link; up = false; element = next_element desk1; token = length (lendings A past) + 1; peer = option_map (λ (p : Offered). p.offer) q }; end = end_of setup payload A s (e ∷ past) })) theirs
      ∙ ap (λ h. Some (record { route = record { link = the_link; up = false; element = next_element desk1; token = length (lendings A past) + 1; peer = Some ob }; end = h })) end-here)))))))

  conn-else : (t : ℕ) → (t == s) ≡ false → conn_of setup payload A (e ∷ past) t ≡ conn_of setup payload A past t
  conn-else t d =
      conn-beside setup payload A e past l one free refl t
      (record { up = refl; link = refl; heard = ap (λ st. if awaits_confirm st then None else option_map (λ (p : Offered). p.offer) (offered B t past)) (state-else t d) }) (end-by A t) (lending-else t d)

  heard-b : (t : ℕ) → heard_on B t (e ∷ past) ≡ heard_on B t past
  heard-b =
      at-or-beside (λ k. heard_on B k (e ∷ past) ≡ heard_on B k past) s
      (ap (λ st. if awaits_confirm st then None else option_map (λ (p : Offered). p.offer) (offered A s (e ∷ past))) (state-b s ∙ waits)
      ∙ sym (ap (λ st. if awaits_confirm st then None else option_map (λ (p : Offered). p.offer) (offered A s past)) waits))
      (λ t d. heard-same B (e ∷ past) past t (state-b t) (offer-else t d))

  conn-b : (t : ℕ) → conn_of setup payload B (e ∷ past) t ≡ conn_of setup payload B past t
  conn-b t = same-conn setup payload B (e ∷ past) past t (record { up = refl; link = refl; heard = heard-b t }) refl lent-b (end-by B t)

  spare-a : length (free_places setup payload A (e ∷ past)) ≡ length (free_places setup payload A past) - 1
  spare-a = ap (λ (ls : List Lending). length (filter (is_free (lent_places ls)) (all_places (rmbs_of setup A) (elements_of setup A)))) lent-a ∙ spare-less setup payload A past one (offered_place o) free

  tokens-a : length (lendings A (e ∷ past)) ≡ length (lendings A past) + 1
  tokens-a = sym (add-one (length (lendings A past)))

  abbrev conns0 : List (Option (Connection Half))
  conns0 = each_socket (conn_of setup payload A past) setup.sockets

  aims-new : slice_set conns0 s (Some aimed_conn)
      ≡ slice_set (slice_set conns0 s (Some new_conn)) s (option_map (λ (k : Connection Half). let c : Connection Half = record k { route = record k.route { peer = Some ob } } in c) (slice_index_or (slice_set conns0 s (Some new_conn)) s None))
  aims-new =
      sym (set-set conns0 s (Some new_conn) (Some aimed_conn))
      ∙ ap (λ q. slice_set (slice_set conns0 s (Some new_conn)) s (option_map (λ (k : Connection Half). let c : Connection Half = record k { route = record k.route { peer = Some ob } } in c) q))
      (sym (get-set conns0 s (Some new_conn) None (subst (λ n. s < n) (sym (sockets-long (conn_of setup payload A past) setup.sockets)) known)))

  -- A's manager
  pub confirms-own : manager_of setup payload regions A (e ∷ past) ≡ with_hand s (record (hand_at s here) { state = WaitsLink }) (hears s ob (starts s the_link (record here { desk = desk1 })))
  confirms-own =
      by-parts setup payload regions A (e ∷ past) (lends_next s desk1)
      (slice_set (each_socket (hand_of A past) setup.sockets) s (record (hand_at s here) { state = WaitsLink }))
      (slice_set (slice_set conns0 s (Some new_conn)) s (option_map (λ (k : Connection Half). let c : Connection Half = record k { route = record k.route { peer = Some ob } } in c) (slice_index_or (slice_set conns0 s (Some new_conn)) s None)))
      (length (lendings A past) + 1) (length (free_places setup payload A past) - 1)
      desk-a
      (sym (set-socket (hand_of A past) (hand_of A (e ∷ past)) setup.sockets s (λ t d. hand-same A (e ∷ past) past t refl (state-else t d))) ∙ ap (λ h. slice_set (each_socket (hand_of A past) setup.sockets) s h) hand-here)
      (sym (set-socket (conn_of setup payload A past) (conn_of setup payload A (e ∷ past)) setup.sockets s conn-else) ∙ (ap (λ (k : Option (Connection Half)). slice_set conns0 s k) conn-here ∙ aims-new))
      tokens-a spare-a

  -- and that of B
  pub confirms-theirs : manager_of setup payload regions B (e ∷ past) ≡ with_desk (makes_link the_link) (manager_of setup payload regions B past)
  confirms-theirs =
      by-parts setup payload regions B (e ∷ past) (makes_link the_link (desk_of setup payload B past)) (each_socket (hand_of B past) setup.sockets) (each_socket (conn_of setup payload B past) setup.sockets) (length (lendings B past)) (length (free_places setup payload B past))
      desk-b (same-sockets (hand_of B (e ∷ past)) (hand_of B past) (λ t. hand-same B (e ∷ past) past t refl (state-b t)) setup.sockets) (same-sockets (conn_of setup payload B (e ∷ past)) (conn_of setup payload B past) conn-b setup.sockets)
      refl (same-spare setup payload B (e ∷ past) past lent-b)

  -- each socket has its lending
  pub confirms-lendings : HasLendings setup payload (e ∷ past)
  confirms-lendings = record { each = by-side (λ y. (t : ℕ) → lending_on t (lent setup payload y (e ∷ past)) ≡ lending_due y t (e ∷ past)) of_a of_b }
    where
      of_b : (t : ℕ) → lending_on t (lent setup payload B (e ∷ past)) ≡ lending_due B t (e ∷ past)
      of_b t = ap (λ (ls : List Lending). lending_on t ls) lent-b ∙ (lendings_are.each B t ∙ sym (due-same B t (e ∷ past) past (state-b t) refl))

      of_a : (t : ℕ) → lending_on t (lent setup payload A (e ∷ past)) ≡ lending_due A t (e ∷ past)
      of_a =
          at-or-beside (λ k. lending_on k (lent setup payload A (e ∷ past)) ≡ lending_due A k (e ∷ past)) s
          (lending-here ∙ sym (lending-due A s (e ∷ past) (record { link = the_link; offer = o }) offer-a (ap (λ st. keeps_element st) state-here)))
          (λ t d. lending-else t d ∙ (lendings_are.each A t ∙ sym (due-same A t (e ∷ past) past (state-else t d) (offer-else t d))))

-- A confirms in later contact: the lowest free element is lent to a new connection of the socket, which hears the offer of B and is
-- established at once, and the manager of B stays as it is.
use Rattle.clc_handshake.specs.Stages.{Hand}
use Rattle.clc_wire.specs.declared.offer.Offer.{Offer}
use Rattle.pipe_model.specs.Fabric.{loses_group_with, table_of}
use Rattle.pipe_model.specs.Fallback.{is_raw}
use Rattle.pipe_model.specs.History.{Offered, offered, offered_if}
use Rattle.pipe_model.specs.Lending.{Lending, free_places, leaves_handshake, lendings, lends_by, lent, lent_places, pipe_of, returns, terms_of}
use Rattle.pipe_model.specs.Messages.{new_pair, pair_number, pair_on, serial}
use Rattle.pipe_model.specs.Posts.{offered_place}
use Rattle.pipe_model.specs.Words.{element_size, elements_of, rmbs_of}
use Rattle.pipe_model.specs.declared.entry.Entry.{Entry}
use Rattle.pipe_model.specs.declared.setup.Setup.{Setup}
use Rattle.rmb_region.specs.Regions.{Buffer}
use Rattle.side_core.specs.Acting.{key_to}
use Rattle.side_core.specs.Desk.{Desk, lends_next, most_slots, next_element}
use Rattle.side_core.specs.Manager.{Manager, hand_at, no_hand, with_hand}
use Rattle.side_core.specs.Posting.{batch_posts}
use Rattle.side_core.specs.Taking.{hears, rises_at, starts}
use Rattle.smc_num.specs.Links.{live_links}
use Rattle.smc_num.specs.Names.{has_link, head, no_link, up_to}
use Rattle.smc_num.specs.Places.{all_places, is_free, rmb_at}
use Rattle.smc_num.specs.declared.LinkId.{LinkId}
use Rattle.smc_num.specs.declared.Side.{Side}
use Rattle.smc_num.specs.declared.Side.TheVariants.{A, B}
use Rattle.std.proofs.Common.{Bool, List, [], ap, cond, eq-eqb, false, filter, if◌then◌else◌, length, map, nat_lt, not, refl, subst, sym, true, ℕ, ◌&&◌, ◌++◌, ◌+◌, ◌-◌, ◌<◌, ◌==◌, ◌||◌, ◌∙◌, ◌∷◌, ◌≡◌}
use Rattle.std.specs.List.{cons_option}
use Rattle.std.specs.Option.{option_or}
use Rattle.std.specs.Prelude.{None, Option, Some, is_some, option_map, slice_index_or, slice_set, unwrap_or}
use Rattle.world_core.proofs.KeptManagers.{by-parts}
use Rattle.world_core.proofs.Lendings.{lending-due, due-same}
use Rattle.world_core.proofs.OpenEnds.{stays-out}
use Rattle.world_core.proofs.QuietEntries.{all-stay}
use Rattle.world_core.proofs.QuietEvents.{by-side, entry-of}
use Rattle.world_core.proofs.SameManagers.{desk_from, rows_from, same-conn, same-spare, hand-same, heard-same}
use Rattle.world_core.proofs.StartedRows.{epoch-here, eqb-sym, next-is, rows-change, spare-less, conn-beside}
use Rattle.world_core.proofs.Tables.{at-socket, same-sockets, set-socket, sockets-long}
use Rattle.world_core.specs.Managers.{HasLendings, awaits_confirm, conn_of, desk_of, each_socket, end_of, epoch_in, first_on, hand_of, heard_on, keeps_element, lending_due, lending_on, manager_of, route_of, rows_of}
use Rattle.world_core.specs.OneLink.{IsAtStage, LiveAtBoth, book_at, fabric_at, keys_at, the_link}
use Rattle.world_core.specs.Wired.{EachItem, keeps_open}
use Rattle.pipe_model.specs.declared.reply.Reply.TheVariants.{Established}
use Rattle.pipe_model.specs.declared.post.Post.TheVariants.{Clc as ClcPost}
use Rattle.pipe_model.specs.declared.event.Event.TheVariants.{Clc}
use Rattle.clc_wire.specs.declared.message.ClcMessage.TheVariants.{Confirm as ConfirmMessage}
use Rattle.pipe_model.specs.Ends.{Half, fresh, settle, is_due, comes_up}
use Rattle.pipe_model.specs.Pipe.{Item, Up, half, pipe}
use Rattle.pipe_model.specs.Connections.{IsUp, WaitsConfirm, is_up, early_state, end_state, after_loss, named_link, group_on, items, part}
use Rattle.element_ledger.specs.Lendings.{Row, changes_at, lends as lends_row, place_of}
use Rattle.world_core.proofs.ConfirmManagers.{set-set, get-set}
use Rattle.world_core.proofs.PipeSteps.{rests}
use Rattle.world_core.proofs.LinkManagers.{stage-desk, rise}
use Rattle.side_core.specs.Records.{Connection, new_route}
use Rattle.side_core.specs.Acting.{risen_at, risen_from}
use Rattle.world_core.proofs.Plain.{if-same, and-false, plus-none, at-or-beside}
use Rattle.std.proofs.Math.Numerals.{add-one}

-- the entry of a Confirm of later contact
abbrev pub later_entry : ℕ → ℕ → Offer → Entry
later_entry actor s o = entry-of actor (Clc s B) Established (ClcPost A s (Some the_link) (ConfirmMessage o) ∷ [])

-- an end that was never up has nothing to tell
abbrev pub new_end : ℕ → List LinkId → Half
new_end number live = record (fresh number) { live = live }

pub new-rests : (depth number : ℕ) (live : List LinkId) (link : LinkId) → is_due depth (comes_up link (new_end number live)) ≡ false
new-rests depth number live link = by (has_link link live) (nat_lt 0 depth)
  where
    by : (a b : Bool) → (a && (b && false)) ≡ false
    by true true = refl
    by true false = refl
    by false b = refl

module _ (setup : Setup) (payload : List ℕ) (regions : List Buffer) (past : List Entry) (t0 s actor : ℕ) (o ob : Offer) (is_first : o.first ≡ false)
    (was : IsAtStage setup (LiveAtBoth t0) past) (now : IsAtStage setup (LiveAtBoth t0) (later_entry actor s o ∷ past)) (lendings_are : HasLendings setup payload past) (known : s < setup.sockets)
    (one : rmbs_of setup A ≡ 1) (free : head (free_places setup payload A past) ≡ Some (offered_place o)) (rmb : rmb_at o.address ≡ 1) (token : o.token ≡ length (lendings A past) + 1)
    (theirs : offered B s past ≡ Some (record { link = the_link; offer = ob })) (none_a : offered A s past ≡ None) (waits : end_state B s past ≡ WaitsConfirm)
    (no_loss : (y : Side) (g : ℕ) → loses_group_with y g (later_entry actor s o) past ≡ false)
    (open_items : (g t : ℕ) → EachItem keeps_open (part payload g t (later_entry actor s o ∷ past)))
    (items_here : (g : ℕ) → items payload g s (later_entry actor s o) past ≡ Up A the_link ∷ []) (items_else : (g t : ℕ) → (t == s) ≡ false → items payload g t (later_entry actor s o) past ≡ [])
    (fresh_end : half A (pipe_of setup payload 1 s past) ≡ new_end setup.number (live_links (table_of A past))) where
  abbrev e : Entry
  e = later_entry actor s o

  abbrev here : Manager Half
  here = manager_of setup payload regions A past

  abbrev l : Lending
  l = lends_by s the_link o

  stays : (y : Side) (t : ℕ) → leaves_handshake y t (Clc s B) Established ≡ false
  stays = by-side (λ y. (t : ℕ) → leaves_handshake y t (Clc s B) Established ≡ false) (λ t. and-false (t == s)) (λ t. refl)

  returns-none : (y : Side) (k : Lending) → returns setup payload y e past k ≡ false
  returns-none y k = stays-out setup payload e past y k (stays y k.s) (no_loss y k.group) (open_items k.group k.s)

  lent-a : lent setup payload A (e ∷ past) ≡ l ∷ lent setup payload A past
  lent-a = ap (λ (ls : List Lending). l ∷ ls) (all-stay (λ k. not (returns setup payload A e past k)) (lent setup payload A past) (λ k. ap (λ b. not b) (returns-none A k)))

  lent-b : lent setup payload B (e ∷ past) ≡ lent setup payload B past
  lent-b = all-stay (λ k. not (returns setup payload B e past k)) (lent setup payload B past) (λ k. ap (λ b. not b) (returns-none B k))

  rows-a : rows_of setup payload A (e ∷ past) ≡ map (changes_at (offered_place o) (lends_row s)) (rows_of setup payload A past)
  rows-a = ap (λ (ls : List Lending). rows_from setup A (l ∷ lendings A past) ls) lent-a ∙ rows-change l (lendings A past) (lent setup payload A past) (all_places (rmbs_of setup A) (elements_of setup A))

  -- no queue pair is made
  pair-a : new_pair A e past ≡ 0
  pair-a = ap (λ b. 0 + ((if b then 1 else 0) + 0)) is_first

  serial-a : serial A (e ∷ past) ≡ serial A past
  serial-a = ap (λ n. serial A past + (if n == 0 then 0 else 1)) pair-a ∙ plus-none (serial A past)

  pairs-a : map (λ k. pair_on A k (e ∷ past)) (up_to most_slots) ≡ map (λ k. pair_on A k past) (up_to most_slots)
  pairs-a = ap (λ n. map (λ k. if n == k then pair_number (serial A past + 1) k else pair_on A k past) (up_to most_slots)) pair-a

  first-a : first_on A (e ∷ past) ≡ first_on A past
  first-a = ap (λ b. unwrap_or (head (cons_option (if b then Some s else None) [])) (first_on A past)) is_first

  -- the desk before the element is lent
  abbrev desk0 : Desk
  desk0 = desk_of setup payload A past

  next-element : next_element desk0 ≡ record { rmb = rmb_at o.address; index = o.index; epoch = epoch_in (offered_place o) (lendings A past) + 1 }
  next-element = next-is setup payload A past one (offered_place o) free

  desk-a : desk_of setup payload A (e ∷ past) ≡ lends_next s desk0
  desk-a =
      stage-desk setup payload A (LiveAtBoth t0) (e ∷ past) now
      ∙ (ap (λ (ns : List ℕ). desk_from setup A (fabric_at (LiveAtBoth t0)) 1 ns (serial A (e ∷ past)) (keys_at A (LiveAtBoth t0)) (book_at A (LiveAtBoth t0)) (rows_of setup payload A (e ∷ past)) (first_on A (e ∷ past))) pairs-a
      ∙ (ap (λ k. desk_from setup A (fabric_at (LiveAtBoth t0)) 1 (map (λ k. pair_on A k past) (up_to most_slots)) k (keys_at A (LiveAtBoth t0)) (book_at A (LiveAtBoth t0)) (rows_of setup payload A (e ∷ past)) (first_on A (e ∷ past))) serial-a
      ∙ (ap (λ k. desk_from setup A (fabric_at (LiveAtBoth t0)) 1 (map (λ k. pair_on A k past) (up_to most_slots)) (serial A past) (keys_at A (LiveAtBoth t0)) (book_at A (LiveAtBoth t0)) (rows_of setup payload A (e ∷ past)) k) first-a
      ∙ (ap (λ (d : Desk). let k : Desk = record d { rows = rows_of setup payload A (e ∷ past) } in k) (sym (stage-desk setup payload A (LiveAtBoth t0) past was))
      ∙ ap (λ (rs : List Row). let k : Desk = record desk0 { rows = rs } in k) (rows-a ∙ ap (λ el. map (changes_at (place_of el) (lends_row s)) desk0.rows) (sym next-element))))))

  desk-b : desk_of setup payload B (e ∷ past) ≡ desk_of setup payload B past
  desk-b =
      stage-desk setup payload B (LiveAtBoth t0) (e ∷ past) now
      ∙ (ap (λ k. desk_from setup B (fabric_at (LiveAtBoth t0)) 1 (map (λ k. pair_on B k past) (up_to most_slots)) k (keys_at B (LiveAtBoth t0)) (book_at B (LiveAtBoth t0)) (rows_of setup payload B (e ∷ past)) (first_on B past)) (plus-none (serial B past))
      ∙ (ap (λ (ls : List Lending). desk_from setup B (fabric_at (LiveAtBoth t0)) 1 (map (λ k. pair_on B k past) (up_to most_slots)) (serial B past) (keys_at B (LiveAtBoth t0)) (book_at B (LiveAtBoth t0)) (rows_from setup B (lendings B past) ls) (first_on B past)) lent-b
      ∙ sym (stage-desk setup payload B (LiveAtBoth t0) past was)))

  -- the handshakes
  up-a : (t : ℕ) → (t == s) ≡ false → is_up A t (e ∷ past) ≡ is_up A t past
  up-a t d = ap (λ b. is_some (option_or (if b then named_link t past else None) None) || is_up A t past) d

  up-s : is_up A s (e ∷ past) ≡ true
  up-s =
      ap (λ b. is_some (option_or (if b then named_link s past else None) None) || is_up A s past) (eq-eqb s s refl)
      ∙ ap (λ q. is_some (option_or (option_map (λ (p : Offered). p.link) q) None) || is_up A s past) theirs

  early-a : (t : ℕ) → early_state A t (e ∷ past) ≡ early_state A t past
  early-a t = ap (λ b. after_loss b (group_on t past) (if t == s then early_state A t past else early_state A t past)) (no_loss A (group_on t past)) ∙ if-same (t == s) (early_state A t past)

  early-b : (t : ℕ) → early_state B t (e ∷ past) ≡ early_state B t past
  early-b t = ap (λ b. after_loss b (group_on t past) (early_state B t past)) (no_loss B (group_on t past))

  state-else : (t : ℕ) → (t == s) ≡ false → end_state A t (e ∷ past) ≡ end_state A t past
  state-else t d = ap (λ b. if b then IsUp else early_state A t (e ∷ past)) (up-a t d) ∙ ap (λ a. if is_up A t past then IsUp else a) (early-a t)

  state-b : (t : ℕ) → end_state B t (e ∷ past) ≡ end_state B t past
  state-b t = ap (λ a. if is_up B t past then IsUp else a) (early-b t)

  state-here : end_state A s (e ∷ past) ≡ IsUp
  state-here = ap (λ b. if b then IsUp else early_state A s (e ∷ past)) up-s

  hand-here : hand_of A (e ∷ past) s ≡ record (hand_at s here) { state = IsUp }
  hand-here =
      ap (λ a. let h : Hand = record { raw = is_raw s past; state = a } in h) state-here
      ∙ ap (λ (h : Hand). let k : Hand = record h { state = IsUp } in k) (sym (at-socket (hand_of A past) setup.sockets s no_hand known))

  -- the offers
  offer-a : offered A s (e ∷ past) ≡ Some (record { link = the_link; offer = o })
  offer-a = ap (λ b. option_or (head (cons_option (offered_if b the_link o) [])) (offered A s past)) (eq-eqb s s refl)

  offer-else : (t : ℕ) → (t == s) ≡ false → offered A t (e ∷ past) ≡ offered A t past
  offer-else t d = ap (λ b. option_or (head (cons_option (offered_if b the_link o) [])) (offered A t past)) d

  -- the new connection
  lending-here : lending_on s (lent setup payload A (e ∷ past)) ≡ Some l
  lending-here = ap (λ (ls : List Lending). lending_on s ls) lent-a ∙ ap (λ b. cond b (Some l) (lending_on s (lent setup payload A past))) (eq-eqb s s refl)

  lending-else : (t : ℕ) → (t == s) ≡ false → lending_on t (lent setup payload A (e ∷ past)) ≡ lending_on t (lent setup payload A past)
  lending-else t d = ap (λ (ls : List Lending). lending_on t ls) lent-a ∙ ap (λ b. cond b (Some l) (lending_on t (lent setup payload A past))) (eqb-sym s t ∙ d)

  end-by : (y : Side) (t : ℕ) (is : List Item) → items payload (group_on t past) t e past ≡ is → end_of setup payload y t (e ∷ past) ≡ half y (pipe (terms_of setup) (is ++ part payload (group_on t past) t past))
  end-by y t is i = ap (λ (is : List Item). half y (pipe (terms_of setup) (is ++ part payload (group_on t past) t past))) i

  end-b : (t : ℕ) → end_of setup payload B t (e ∷ past) ≡ end_of setup payload B t past
  end-b =
      at-or-beside (λ k. end_of setup payload B k (e ∷ past) ≡ end_of setup payload B k past) s
      (end-by B s (Up A the_link ∷ []) (items_here (group_on s past)) ∙ rests (terms_of setup) B (part payload (group_on s past) s past))
      (λ t d. end-by B t [] (items_else (group_on t past) t d))

  abbrev live : List LinkId
  live = live_links (desk_of setup payload A past).links.known

  end-was : end_of setup payload A s past ≡ new_end setup.number live
  end-was = ap (λ q. let g : ℕ = unwrap_or (option_map (λ (link : LinkId). link.group) (option_map (λ (p : Offered). p.link) q)) 0 in half A (pipe_of setup payload g s past)) theirs ∙ fresh_end

  abbrev risen_end : Half
  risen_end = settle setup.depth (comes_up the_link (new_end setup.number live))

  end-here : end_of setup payload A s (e ∷ past) ≡ risen_end
  end-here = end-by A s (Up A the_link ∷ []) (items_here (group_on s past)) ∙ ap (λ h. settle setup.depth (comes_up the_link h)) end-was

  -- as it begins, as it has heard the offer of B, and as it is established
  abbrev new_conn : Connection Half
  new_conn = record { route = new_route the_link (next_element desk0) (length (lendings A past) + 1); end = new_end setup.number live }

  abbrev aim : Connection Half → Connection Half
  aim c = record c { route = record c.route { peer = Some ob } }

  abbrev aimed_conn : Connection Half
  aimed_conn = aim new_conn

  abbrev risen_conn : Connection Half
  risen_conn = rise setup.depth aimed_conn

  conn-here : conn_of setup payload A (e ∷ past) s ≡ Some risen_conn
  conn-here =
      ap (λ q. option_map (λ k. let c : Connection Half = record { route = route_of A s (e ∷ past) k; end = end_of setup payload A s (e ∷ past) } in c) q) lending-here
      ∙ (ap (λ q. Some (record { route = record { link = unwrap_or (option_map (λ (p : Offered). p.link) q) no_link; up = is_up A s (e ∷ past); element = record { rmb = rmb_at o.address; index = o.index; epoch = epoch_in (offered_place o) (l ∷ lendings A past) }; token = o.token; peer = heard_on A s (e ∷ past) }; end = end_of setup payload A s (e ∷ past) })) theirs
      ∙ (ap (λ b. Some (record { route = record { link = the_link; up = b; element = record { rmb = rmb_at o.address; index = o.index; epoch = epoch_in (offered_place o) (l ∷ lendings A past) }; token = o.token; peer = heard_on A s (e ∷ past) }; end = end_of setup payload A s (e ∷ past) })) up-s
      ∙ (ap (λ n. Some (record { route = record { link = the_link; up = true; element = record { rmb = rmb_at o.address; index = o.index; epoch = n }; token = o.token; peer = heard_on A s (e ∷ past) }; end = end_of setup payload A s (e ∷ past) })) (epoch-here l (lendings A past) (lent setup payload A past))
      ∙ (ap (λ el. Some (record { route = record { link = the_link; up = true; element = el; token = o.token; peer = heard_on A s (e ∷ past) }; end = end_of setup payload A s (e ∷ past) })) (sym next-element)
      ∙ (ap (λ n. Some (record { route = record { link = the_link; up = true; element = next_element desk0; token = n; peer = heard_on A s (e ∷ past) }; end = end_of setup payload A s (e ∷ past) })) token
      ∙ (ap (λ st. Some (record { route = record { link = the_link; up = true; element = next_element desk0; token = length (lendings A past) + 1; peer = if awaits_confirm st then None else option_map (λ (p : Offered). p.offer) (offered B s past) }; end = end_of setup payload A s (e ∷ past) })) state-here
      ∙ (ap (λ q. Some (record { route = record { link = the_link; up = true; element = next_element desk0; token = length (lendings A past) + 1; peer = option_map (λ (p : Offered). p.offer) q }; end = end_of setup payload A s (e ∷ past) })) theirs
      ∙ ap (λ h. Some (record { route = record { link = the_link; up = true; element = next_element desk0; token = length (lendings A past) + 1; peer = Some ob }; end = h })) end-here)))))))

  conn-else : (t : ℕ) → (t == s) ≡ false → conn_of setup payload A (e ∷ past) t ≡ conn_of setup payload A past t
  conn-else t d =
      conn-beside setup payload A e past l one free refl t
      (record { up = up-a t d; link = refl; heard = ap (λ st. if awaits_confirm st then None else option_map (λ (p : Offered). p.offer) (offered B t past)) (state-else t d) })
      (end-by A t [] (items_else (group_on t past) t d)) (lending-else t d)

  heard-b : (t : ℕ) → heard_on B t (e ∷ past) ≡ heard_on B t past
  heard-b =
      at-or-beside (λ k. heard_on B k (e ∷ past) ≡ heard_on B k past) s
      (ap (λ st. if awaits_confirm st then None else option_map (λ (p : Offered). p.offer) (offered A s (e ∷ past))) (state-b s ∙ waits)
      ∙ sym (ap (λ st. if awaits_confirm st then None else option_map (λ (p : Offered). p.offer) (offered A s past)) waits))
      (λ t d. heard-same B (e ∷ past) past t (state-b t) (offer-else t d))

  conn-b : (t : ℕ) → conn_of setup payload B (e ∷ past) t ≡ conn_of setup payload B past t
  conn-b t = same-conn setup payload B (e ∷ past) past t (record { up = refl; link = refl; heard = heard-b t }) refl lent-b (end-b t)

  spare-a : length (free_places setup payload A (e ∷ past)) ≡ length (free_places setup payload A past) - 1
  spare-a = ap (λ (ls : List Lending). length (filter (is_free (lent_places ls)) (all_places (rmbs_of setup A) (elements_of setup A)))) lent-a ∙ spare-less setup payload A past one (offered_place o) free

  tokens-a : length (lendings A (e ∷ past)) ≡ length (lendings A past) + 1
  tokens-a = sym (add-one (length (lendings A past)))

  abbrev conns0 : List (Option (Connection Half))
  conns0 = each_socket (conn_of setup payload A past) setup.sockets

  abbrev conns1 : List (Option (Connection Half))
  conns1 = slice_set conns0 s (Some new_conn)

  abbrev conns2 : List (Option (Connection Half))
  conns2 = slice_set conns1 s (option_map aim (slice_index_or conns1 s None))

  known-conns : s < length conns0
  known-conns = subst (λ n. s < n) (sym (sockets-long (conn_of setup payload A past) setup.sockets)) known

  conns2-is : conns2 ≡ slice_set conns0 s (Some aimed_conn)
  conns2-is = ap (λ q. slice_set conns1 s (option_map aim q)) (get-set conns0 s (Some new_conn) None known-conns) ∙ set-set conns0 s (Some new_conn) (Some aimed_conn)

  aimed-at : slice_index_or conns2 s None ≡ Some aimed_conn
  aimed-at = ap (λ (cs : List (Option (Connection Half))). slice_index_or cs s None) conns2-is ∙ get-set conns0 s (Some aimed_conn) None known-conns

  rises-new : slice_set conns0 s (Some risen_conn) ≡ slice_set conns2 s (option_map (rise setup.depth) (slice_index_or conns2 s None))
  rises-new =
      sym (set-set conns0 s (Some aimed_conn) (Some risen_conn))
      ∙ (ap (λ (cs : List (Option (Connection Half))). slice_set cs s (Some risen_conn)) (sym conns2-is)
      ∙ ap (λ q. slice_set conns2 s (option_map (rise setup.depth) q)) (sym aimed-at))

  -- A's manager
  pub later-own : manager_of setup payload regions A (e ∷ past) ≡ with_hand s (record (hand_at s here) { state = IsUp }) (rises_at s (hears s ob (starts s the_link here)))
  later-own =
      by-parts setup payload regions A (e ∷ past) (lends_next s desk0)
      (slice_set (each_socket (hand_of A past) setup.sockets) s (record (hand_at s here) { state = IsUp }))
      (slice_set conns2 s (option_map (rise setup.depth) (slice_index_or conns2 s None)))
      (length (lendings A past) + 1) (length (free_places setup payload A past) - 1)
      desk-a
      (sym (set-socket (hand_of A past) (hand_of A (e ∷ past)) setup.sockets s (λ t d. hand-same A (e ∷ past) past t refl (state-else t d))) ∙ ap (λ h. slice_set (each_socket (hand_of A past) setup.sockets) s h) hand-here)
      (sym (set-socket (conn_of setup payload A past) (conn_of setup payload A (e ∷ past)) setup.sockets s conn-else) ∙ (ap (λ (k : Option (Connection Half)). slice_set conns0 s k) conn-here ∙ rises-new))
      tokens-a spare-a

  -- nothing is due then
  pub later-rests : risen_at s (hears s ob (starts s the_link here)) ≡ []
  later-rests =
      ap (λ q. risen_from (hears s ob (starts s the_link here)) q) aimed-at
      ∙ ap (λ b. if b then batch_posts (element_size setup) A (key_to (lends_next s desk0) the_link (Some ob)) (Some ob) (comes_up the_link (new_end setup.number live)) else []) (new-rests setup.depth setup.number live the_link)

  -- and that of B
  pub later-theirs : manager_of setup payload regions B (e ∷ past) ≡ manager_of setup payload regions B past
  later-theirs =
      by-parts setup payload regions B (e ∷ past) (desk_of setup payload B past) (each_socket (hand_of B past) setup.sockets) (each_socket (conn_of setup payload B past) setup.sockets) (length (lendings B past)) (length (free_places setup payload B past))
      desk-b (same-sockets (hand_of B (e ∷ past)) (hand_of B past) (λ t. hand-same B (e ∷ past) past t refl (state-b t)) setup.sockets) (same-sockets (conn_of setup payload B (e ∷ past)) (conn_of setup payload B past) conn-b setup.sockets)
      refl (same-spare setup payload B (e ∷ past) past lent-b)

  -- each socket has its lending
  pub later-lendings : HasLendings setup payload (e ∷ past)
  later-lendings = record { each = by-side (λ y. (t : ℕ) → lending_on t (lent setup payload y (e ∷ past)) ≡ lending_due y t (e ∷ past)) of_a of_b }
    where
      of_b : (t : ℕ) → lending_on t (lent setup payload B (e ∷ past)) ≡ lending_due B t (e ∷ past)
      of_b t = ap (λ (ls : List Lending). lending_on t ls) lent-b ∙ (lendings_are.each B t ∙ sym (due-same B t (e ∷ past) past (state-b t) refl))

      of_a : (t : ℕ) → lending_on t (lent setup payload A (e ∷ past)) ≡ lending_due A t (e ∷ past)
      of_a =
          at-or-beside (λ k. lending_on k (lent setup payload A (e ∷ past)) ≡ lending_due A k (e ∷ past)) s
          (lending-here ∙ sym (lending-due A s (e ∷ past) (record { link = the_link; offer = o }) offer-a (ap (λ st. keeps_element st) state-here)))
          (λ t d. lending-else t d ∙ (lendings_are.each A t ∙ sym (due-same A t (e ∷ past) past (state-else t d) (offer-else t d))))

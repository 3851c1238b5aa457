-- B accepts a Proposal: the lowest free element is lent to a new connection of the socket, in first contact in a new group, and the
-- manager of A stays as it is.
use Rattle.world_core.proofs.OpenEnds.{stays-out}
use Rattle.std.specs.List.{cons_option}
use Rattle.pipe_model.specs.Words.{rmbs_of, elements_of}
use Rattle.std.proofs.Common.{◌≡◌, ◌∙◌, ℕ, ◌+◌, ◌-◌, ◌<◌, ◌==◌, not, Bool, true, false, cond, if◌then◌else◌, List, [], ◌∷◌, ◌++◌, length, map, filter, refl, ap, sym, subst, eq-eqb, eqb-true}
use Rattle.std.specs.Prelude.{Option, Some, None, option_map, unwrap_or, slice_set}
use Rattle.std.specs.Option.{option_or}
use Rattle.smc_num.specs.declared.Side.{Side}
use Rattle.smc_num.specs.declared.Side.TheVariants.{A, B}
use Rattle.smc_num.specs.declared.LinkId.{LinkId}
use Rattle.smc_num.specs.Names.{up_to, head, no_link}
use Rattle.smc_num.specs.Links.{live_links, Known}
use Rattle.smc_num.specs.Places.{rmb_at, all_places, is_free}
use Rattle.rmb_region.specs.Regions.{Buffer}
use Rattle.clc_wire.specs.declared.offer.Offer.{Offer}
use Rattle.clc_wire.specs.declared.message.ClcMessage.TheVariants.{Accept as AcceptMessage}
use Rattle.element_ledger.specs.Lendings.{Row, changes_at, lends as lends_row, place_of, next_lending, first_free}
use Rattle.pipe_model.specs.declared.setup.Setup.{Setup}
use Rattle.pipe_model.specs.declared.event.Event.TheVariants.{Clc}
use Rattle.pipe_model.specs.declared.reply.Reply.TheVariants.{Sent}
use Rattle.pipe_model.specs.declared.reply.SentKind.TheVariants.{Accept as AcceptSent}
use Rattle.pipe_model.specs.declared.post.Post.TheVariants.{Clc as ClcPost}
use Rattle.pipe_model.specs.declared.entry.Entry.{Entry}
use Rattle.pipe_model.specs.History.{Offered, offered, offered_if}
use Rattle.pipe_model.specs.Fabric.{Fabric, peer, table_of, loses_group_with}
use Rattle.pipe_model.specs.Ends.{Half, fresh}
use Rattle.pipe_model.specs.Pipe.{Item, half, pipe}
use Rattle.pipe_model.specs.Connections.{WaitsConfirm, IsUp, is_up, early_state, end_state, group_on, items, part, after_loss}
use Rattle.pipe_model.specs.Lending.{Lending, lendings, lends_by, lent, lent_places, returns, free_places, pipe_of, terms_of, leaves_handshake}
use Rattle.pipe_model.specs.Fallback.{is_raw}
use Rattle.pipe_model.specs.Messages.{pair_on, serial, pair_number, new_pair}
use Rattle.pipe_model.specs.Posts.{offered_place}
use Rattle.clc_handshake.specs.Stages.{Hand}
use Rattle.side_core.specs.Records.{Connection, new_route}
use Rattle.side_core.specs.Desk.{Desk, most_slots, next_element, begins_group, lends_next}
use Rattle.side_core.specs.Manager.{Manager, hand_at, with_hand, no_hand}
use Rattle.side_core.specs.Taking.{starts}
use Rattle.world_core.specs.OneLink.{the_link, Stage, NoLink, Begun, LiveAtBoth, fabric_at, groups_at, keys_at, book_at, IsAtStage}
use Rattle.world_core.specs.Wired.{EachItem, keeps_open}
use Rattle.world_core.specs.Managers.{manager_of, desk_of, hand_of, conn_of, end_of, route_of, rows_of, first_on, each_socket, lending_on, heard_on, awaits_confirm, keeps_element, epoch_in, lending_due, HasLendings}
use Rattle.world_core.proofs.QuietEvents.{by-side, entry-of}
use Rattle.world_core.proofs.QuietEntries.{all-stay}
use Rattle.world_core.proofs.StartedRows.{rows-change, spare-less, next-is, epoch-here, eqb-sym, conn-beside}
use Rattle.world_core.proofs.SameManagers.{desk_from, rows_from, same-conn, same-spare, hand-same, heard-same}
use Rattle.world_core.proofs.LinkManagers.{stage-desk}
use Rattle.world_core.proofs.KeptManagers.{by-parts}
use Rattle.world_core.proofs.Lendings.{no-lending-due, lending-due, due-same}
use Rattle.world_core.proofs.Tables.{same-sockets, set-socket, at-socket}
use Rattle.world_core.proofs.Plain.{and-false, plus-none, at-or-beside}
use Rattle.std.proofs.Math.Numerals.{add-one}

-- how far an Accept leads the link
pub data Accepting : ℕ → Bool → Stage → Stage → Type 0 where
  begins_contact : (s : ℕ) → Accepting s true NoLink (Begun s)
  joins_group : (s t : ℕ) → Accepting s false (LiveAtBoth t) (LiveAtBoth t)

-- the entry of an Accept
abbrev pub accept_entry : ℕ → ℕ → Offer → Entry
accept_entry actor s o = entry-of actor (Clc s A) (Sent AcceptSent) (ClcPost B s (Some the_link) (AcceptMessage o) ∷ [])

-- the desk of B: in first contact a group begins, with a queue pair and a key
desk-begins : {s : ℕ} {first : Bool} {from to : Stage} → Accepting s first from to → (setup : Setup) (pairs : List ℕ) (number : ℕ) (rows rows2 : List Row) (was : ℕ)
    → desk_from setup B (fabric_at to) (groups_at to) (if first then slice_set pairs 0 (pair_number (number + 1) 1) else pairs) (if first then number + 1 else number) (keys_at B to) (book_at B to) rows2 (if first then s else was)
    ≡ (let d : Desk = desk_from setup B (fabric_at from) (groups_at from) pairs number (keys_at B from) (book_at B from) rows was in let k : Desk = record (if first then begins_group s the_link 1 d else d) { rows = rows2 } in k)
desk-begins (begins_contact s) setup pairs number rows rows2 was = refl
desk-begins (joins_group s t) setup pairs number rows rows2 was = refl

desk-theirs-stays : {s : ℕ} {first : Bool} {from to : Stage} → Accepting s first from to → (setup : Setup) (pairs : List ℕ) (number : ℕ) (rows : List Row) (was : ℕ)
    → desk_from setup A (fabric_at to) (groups_at to) pairs number (keys_at A to) (book_at A to) rows was ≡ desk_from setup A (fabric_at from) (groups_at from) pairs number (keys_at A from) (book_at A from) rows was
desk-theirs-stays (begins_contact s) setup pairs number rows was = refl
desk-theirs-stays (joins_group s t) setup pairs number rows was = refl

rows-stay : (first : Bool) (s : ℕ) (d : Desk) → (if first then begins_group s the_link 1 d else d).rows ≡ d.rows
rows-stay true s d = refl
rows-stay false s d = refl

known-live : {s : ℕ} {first : Bool} {from to : Stage} → Accepting s first from to → (d : Desk) → d.links.known ≡ (peer B (fabric_at from)).table → (if first then begins_group s the_link 1 d else d).links.known ≡ (peer B (fabric_at from)).table
known-live (begins_contact s) d e = refl
known-live (joins_group s t) d e = e

module _ {s : ℕ} {first : Bool} {from to : Stage} (setup : Setup) (payload : List ℕ) (regions : List Buffer) (past : List Entry) (c : Accepting s first from to) (actor : ℕ) (o : Offer) (is_first : o.first ≡ first)
    (was : IsAtStage setup from past) (now : IsAtStage setup to (accept_entry actor s o ∷ past)) (lendings_are : HasLendings setup payload past) (known : s < setup.sockets)
    (one : rmbs_of setup B ≡ 1) (free : head (free_places setup payload B past) ≡ Some (offered_place o)) (rmb : rmb_at o.address ≡ 1) (token : o.token ≡ length (lendings B past) + 1)
    (none_b : offered B s past ≡ None) (none_a : offered A s past ≡ None) (down : is_up B s past ≡ false)
    (no_loss : (y : Side) (g : ℕ) → loses_group_with y g (accept_entry actor s o) past ≡ false)
    (open_items : (g t : ℕ) → EachItem keeps_open (part payload g t (accept_entry actor s o ∷ past))) (no_items : (g t : ℕ) → items payload g t (accept_entry actor s o) past ≡ [])
    (fresh_end : half B (pipe_of setup payload 1 s past) ≡ record (fresh setup.number) { live = live_links (table_of B past) }) where
  abbrev e : Entry
  e = accept_entry actor s o

  abbrev here : Manager Half
  here = manager_of setup payload regions B past

  abbrev l : Lending
  l = lends_by s the_link o

  stays : (y : Side) (t : ℕ) → leaves_handshake y t (Clc s A) (Sent AcceptSent) ≡ false
  stays = by-side (λ y. (t : ℕ) → leaves_handshake y t (Clc s A) (Sent AcceptSent) ≡ false) (λ t. refl) (λ t. and-false (t == s))

  returns-none : (y : Side) (k : Lending) → returns setup payload y e past k ≡ false
  returns-none y k = stays-out setup payload e past y k (stays y k.s) (no_loss y k.group) (open_items k.group k.s)

  lent-b : lent setup payload B (e ∷ past) ≡ l ∷ lent setup payload B past
  lent-b = ap (λ (ls : List Lending). l ∷ ls) (all-stay (λ k. not (returns setup payload B e past k)) (lent setup payload B past) (λ k. ap (λ b. not b) (returns-none B k)))

  lent-a : lent setup payload A (e ∷ past) ≡ lent setup payload A past
  lent-a = all-stay (λ k. not (returns setup payload A e past k)) (lent setup payload A past) (λ k. ap (λ b. not b) (returns-none A k))

  rows-b : rows_of setup payload B (e ∷ past) ≡ map (changes_at (offered_place o) (lends_row s)) (rows_of setup payload B past)
  rows-b = ap (λ (ls : List Lending). rows_from setup B (l ∷ lendings B past) ls) lent-b ∙ rows-change l (lendings B past) (lent setup payload B past) (all_places (rmbs_of setup B) (elements_of setup B))

  -- the queue pairs
  pair-b : new_pair B e past ≡ (if first then 1 else 0)
  pair-b = ap (λ b. 0 + ((if b then 1 else 0) + 0)) is_first ∙ by first
    where
      by : (b : Bool) → 0 + ((if b then 1 else 0) + 0) ≡ (if b then 1 else 0)
      by true = refl
      by false = refl

  serial-b : serial B (e ∷ past) ≡ (if first then serial B past + 1 else serial B past)
  serial-b = ap (λ n. serial B past + (if n == 0 then 0 else 1)) pair-b ∙ by first
    where
      by : (b : Bool) → serial B past + (if (if b then 1 else 0) == 0 then 0 else 1) ≡ (if b then serial B past + 1 else serial B past)
      by true = refl
      by false = plus-none (serial B past)

  pairs-b : map (λ k. pair_on B k (e ∷ past)) (up_to most_slots) ≡ (if first then slice_set (map (λ k. pair_on B k past) (up_to most_slots)) 0 (pair_number (serial B past + 1) 1) else map (λ k. pair_on B k past) (up_to most_slots))
  pairs-b = ap (λ n. map (λ k. if n == k then pair_number (serial B past + 1) k else pair_on B k past) (up_to most_slots)) pair-b ∙ by first
    where
      by : (b : Bool) → map (λ k. if (if b then 1 else 0) == k then pair_number (serial B past + 1) k else pair_on B k past) (up_to most_slots)
          ≡ (if b then slice_set (map (λ k. pair_on B k past) (up_to most_slots)) 0 (pair_number (serial B past + 1) 1) else map (λ k. pair_on B k past) (up_to most_slots))
      by true = refl
      by false = refl

  first-b : first_on B (e ∷ past) ≡ (if first then s else first_on B past)
  first-b = ap (λ b. unwrap_or (head (cons_option (if b then Some s else None) [])) (first_on B past)) is_first ∙ by first
    where
      by : (b : Bool) → unwrap_or (head (cons_option (if b then Some s else None) [])) (first_on B past) ≡ (if b then s else first_on B past)
      by true = refl
      by false = refl

  -- the desk before the element is lent
  abbrev desk1 : Desk
  desk1 = if first then begins_group s the_link 1 (desk_of setup payload B past) else desk_of setup payload B past

  next-element : next_element desk1 ≡ record { rmb = rmb_at o.address; index = o.index; epoch = epoch_in (offered_place o) (lendings B past) + 1 }
  next-element =
      ap (λ (rs : List Row). unwrap_or (option_map next_lending (first_free rs)) (record { rmb = 0; index = 0; epoch = 0 })) (rows-stay first s (desk_of setup payload B past))
      ∙ next-is setup payload B past one (offered_place o) free

  desk-b : desk_of setup payload B (e ∷ past) ≡ lends_next s desk1
  desk-b =
      stage-desk setup payload B to (e ∷ past) now
      ∙ (ap (λ (ns : List ℕ). desk_from setup B (fabric_at to) (groups_at to) ns (serial B (e ∷ past)) (keys_at B to) (book_at B to) (rows_of setup payload B (e ∷ past)) (first_on B (e ∷ past))) pairs-b
      ∙ (ap (λ k. desk_from setup B (fabric_at to) (groups_at to) (if first then slice_set (map (λ k. pair_on B k past) (up_to most_slots)) 0 (pair_number (serial B past + 1) 1) else map (λ k. pair_on B k past) (up_to most_slots)) k (keys_at B to) (book_at B to) (rows_of setup payload B (e ∷ past)) (first_on B (e ∷ past))) serial-b
      ∙ (ap (λ k. desk_from setup B (fabric_at to) (groups_at to) (if first then slice_set (map (λ k. pair_on B k past) (up_to most_slots)) 0 (pair_number (serial B past + 1) 1) else map (λ k. pair_on B k past) (up_to most_slots)) (if first then serial B past + 1 else serial B past) (keys_at B to) (book_at B to) (rows_of setup payload B (e ∷ past)) k) first-b
      ∙ (desk-begins c setup (map (λ k. pair_on B k past) (up_to most_slots)) (serial B past) (rows_of setup payload B past) (rows_of setup payload B (e ∷ past)) (first_on B past)
      ∙ (ap (λ (d : Desk). let k : Desk = record (if first then begins_group s the_link 1 d else d) { rows = rows_of setup payload B (e ∷ past) } in k) (sym (stage-desk setup payload B from past was))
      ∙ ap (λ (rs : List Row). let k : Desk = record desk1 { rows = rs } in k)
      (rows-b ∙ (ap (λ (rs : List Row). map (changes_at (offered_place o) (lends_row s)) rs) (sym (rows-stay first s (desk_of setup payload B past)))
      ∙ ap (λ el. map (changes_at (place_of el) (lends_row s)) desk1.rows) (sym next-element))))))))

  desk-a : desk_of setup payload A (e ∷ past) ≡ desk_of setup payload A past
  desk-a =
      stage-desk setup payload A to (e ∷ past) now
      ∙ (ap (λ k. desk_from setup A (fabric_at to) (groups_at to) (map (λ k. pair_on A k past) (up_to most_slots)) k (keys_at A to) (book_at A to) (rows_of setup payload A (e ∷ past)) (first_on A past)) (plus-none (serial A past))
      ∙ (ap (λ (ls : List Lending). desk_from setup A (fabric_at to) (groups_at to) (map (λ k. pair_on A k past) (up_to most_slots)) (serial A past) (keys_at A to) (book_at A to) (rows_from setup A (lendings A past) ls) (first_on A past)) lent-a
      ∙ (desk-theirs-stays c setup (map (λ k. pair_on A k past) (up_to most_slots)) (serial A past) (rows_of setup payload A past) (first_on A past)
      ∙ sym (stage-desk setup payload A from past was))))

  -- the handshakes
  early-b : (t : ℕ) → early_state B t (e ∷ past) ≡ (if t == s then WaitsConfirm else early_state B t past)
  early-b t = ap (λ b. after_loss b (group_on t past) (if t == s then WaitsConfirm else early_state B t past)) (no_loss B (group_on t past))

  early-a : (t : ℕ) → early_state A t (e ∷ past) ≡ early_state A t past
  early-a t = ap (λ b. after_loss b (group_on t past) (early_state A t past)) (no_loss A (group_on t past))

  state-else : (t : ℕ) → (t == s) ≡ false → end_state B t (e ∷ past) ≡ end_state B t past
  state-else t d = ap (λ a. if is_up B t past then IsUp else a) (early-b t ∙ ap (λ b. if b then WaitsConfirm else early_state B t past) d)

  state-a : (t : ℕ) → end_state A t (e ∷ past) ≡ end_state A t past
  state-a t = ap (λ a. if is_up A t past then IsUp else a) (early-a t)

  state-here : end_state B s (e ∷ past) ≡ WaitsConfirm
  state-here = ap (λ b. if b then IsUp else early_state B s (e ∷ past)) down ∙ (early-b s ∙ ap (λ b. if b then WaitsConfirm else early_state B s past) (eq-eqb s s refl))

  hand-here : hand_of B (e ∷ past) s ≡ record (hand_at s here) { state = WaitsConfirm }
  hand-here =
      ap (λ a. let h : Hand = record { raw = is_raw s past; state = a } in h) state-here
      ∙ ap (λ (h : Hand). let k : Hand = record h { state = WaitsConfirm } in k) (sym (at-socket (hand_of B past) setup.sockets s no_hand known))

  -- the offers
  offer-b : offered B s (e ∷ past) ≡ Some (record { link = the_link; offer = o })
  offer-b = ap (λ b. option_or (head (cons_option (offered_if b the_link o) [])) (offered B s past)) (eq-eqb s s refl)

  offer-else : (t : ℕ) → (t == s) ≡ false → offered B t (e ∷ past) ≡ offered B t past
  offer-else t d = ap (λ b. option_or (head (cons_option (offered_if b the_link o) [])) (offered B t past)) d

  lending-here : lending_on s (lent setup payload B (e ∷ past)) ≡ Some l
  lending-here = ap (λ (ls : List Lending). lending_on s ls) lent-b ∙ ap (λ b. cond b (Some l) (lending_on s (lent setup payload B past))) (eq-eqb s s refl)

  lending-else : (t : ℕ) → (t == s) ≡ false → lending_on t (lent setup payload B (e ∷ past)) ≡ lending_on t (lent setup payload B past)
  lending-else t d = ap (λ (ls : List Lending). lending_on t ls) lent-b ∙ ap (λ b. cond b (Some l) (lending_on t (lent setup payload B past))) (eqb-sym s t ∙ d)

  end-here : end_of setup payload B s (e ∷ past) ≡ record (fresh setup.number) { live = live_links (table_of B past) }
  end-here =
      ap (λ q. let g : ℕ = unwrap_or (option_map (λ (link : LinkId). link.group) (option_map (λ (p : Offered). p.link) q)) 0 in half B (pipe_of setup payload g s (e ∷ past))) offer-b
      ∙ (ap (λ (is : List Item). half B (pipe (terms_of setup) (is ++ part payload 1 s past))) (no_items 1 s) ∙ fresh_end)

  live-is : live_links (table_of B past) ≡ live_links desk1.links.known
  live-is =
      let k = known-live c (desk_of setup payload B past) (ap (λ (f : Fabric). f.b.table) was.fabric_is) in
      ap (λ (f : Fabric). live_links f.b.table) was.fabric_is ∙ ap (λ (ks : List Known). live_links ks) (sym k)

  conn-here : conn_of setup payload B (e ∷ past) s ≡ Some (record { route = new_route the_link (next_element desk1) (length (lendings B past) + 1); end = record (fresh setup.number) { live = live_links desk1.links.known } })
  conn-here =
      ap (λ q. option_map (λ k. let c : Connection Half = record { route = route_of B s (e ∷ past) k; end = end_of setup payload B s (e ∷ past) } in c) q) lending-here
      ∙ (ap (λ q. Some (record { route = record { link = unwrap_or (option_map (λ (p : Offered). p.link) q) no_link; up = is_up B s past; element = record { rmb = rmb_at o.address; index = o.index; epoch = epoch_in (offered_place o) (l ∷ lendings B past) }; token = o.token; peer = heard_on B s (e ∷ past) }; end = end_of setup payload B s (e ∷ past) })) offer-b
      ∙ (ap (λ b. Some (record { route = record { link = the_link; up = b; element = record { rmb = rmb_at o.address; index = o.index; epoch = epoch_in (offered_place o) (l ∷ lendings B past) }; token = o.token; peer = heard_on B s (e ∷ past) }; end = end_of setup payload B s (e ∷ past) })) down
      ∙ (ap (λ n. Some (record { route = record { link = the_link; up = false; element = record { rmb = rmb_at o.address; index = o.index; epoch = n }; token = o.token; peer = heard_on B s (e ∷ past) }; end = end_of setup payload B s (e ∷ past) })) (epoch-here l (lendings B past) (lent setup payload B past))
      ∙ (ap (λ el. Some (record { route = record { link = the_link; up = false; element = el; token = o.token; peer = heard_on B s (e ∷ past) }; end = end_of setup payload B s (e ∷ past) })) (sym next-element)
      ∙ (ap (λ n. Some (record { route = record { link = the_link; up = false; element = next_element desk1; token = n; peer = heard_on B s (e ∷ past) }; end = end_of setup payload B s (e ∷ past) })) token
      ∙ (ap (λ st. Some (record { route = record { link = the_link; up = false; element = next_element desk1; token = length (lendings B past) + 1; peer = if awaits_confirm st then None else option_map (λ (p : Offered). p.offer) (offered A s (e ∷ past)) }; end = end_of setup payload B s (e ∷ past) })) state-here
      ∙ (ap (λ h. Some (record { route = new_route the_link (next_element desk1) (length (lendings B past) + 1); end = h })) end-here
      ∙ ap (λ (ls : List LinkId). Some (record { route = new_route the_link (next_element desk1) (length (lendings B past) + 1); end = record (fresh setup.number) { live = ls } })) live-is)))))))

  -- the other connections
  end-else : (y : Side) (t : ℕ) → group_on t (e ∷ past) ≡ group_on t past → end_of setup payload y t (e ∷ past) ≡ end_of setup payload y t past
  end-else y t same =
      ap (λ g. half y (pipe (terms_of setup) (part payload g t (e ∷ past)))) same
      ∙ ap (λ (is : List Item). half y (pipe (terms_of setup) (is ++ part payload (group_on t past) t past))) (no_items (group_on t past) t)

  group-else : (t : ℕ) → (t == s) ≡ false → group_on t (e ∷ past) ≡ group_on t past
  group-else t d = ap (λ o. unwrap_or (option_map (λ (link : LinkId). link.group) (option_map (λ (p : Offered). p.link) o)) 0) (offer-else t d)

  conn-else : (t : ℕ) → (t == s) ≡ false → conn_of setup payload B (e ∷ past) t ≡ conn_of setup payload B past t
  conn-else t d =
      conn-beside setup payload B e past l one free refl t
      (record {
        up = refl;
        link = ap (λ q. option_map (λ (p : Offered). p.link) q) (offer-else t d);
        heard = ap (λ st. if awaits_confirm st then None else option_map (λ (p : Offered). p.offer) (offered A t past)) (state-else t d);
      }) (end-else B t (group-else t d)) (lending-else t d)

  conn-a : (t : ℕ) → conn_of setup payload A (e ∷ past) t ≡ conn_of setup payload A past t
  conn-a t = by (t == s) refl
    where
      no-conn : (h : List Entry) → lending_on s (lent setup payload A h) ≡ None → conn_of setup payload A h s ≡ None
      no-conn h none = ap (λ q. option_map (λ k. let c : Connection Half = record { route = route_of A s h k; end = end_of setup payload A s h } in c) q) none

      none-lent : lending_on s (lent setup payload A past) ≡ None
      none-lent = lendings_are.each A s ∙ no-lending-due A s past none_a

      by : (b : Bool) → (t == s) ≡ b → conn_of setup payload A (e ∷ past) t ≡ conn_of setup payload A past t
      by true i = subst (λ k. conn_of setup payload A (e ∷ past) k ≡ conn_of setup payload A past k) (sym (eqb-true t s i)) (no-conn (e ∷ past) (ap (λ (ls : List Lending). lending_on s ls) lent-a ∙ none-lent) ∙ sym (no-conn past none-lent))
      by false d = same-conn setup payload A (e ∷ past) past t (record {
        up = refl;
        link = ap (λ q. option_map (λ (p : Offered). p.link) q) (offer-else t d);
        heard = heard-same A (e ∷ past) past t (state-a t) (offer-else t d);
      }) refl lent-a (end-else A t (group-else t d))

  spare-b : length (free_places setup payload B (e ∷ past)) ≡ length (free_places setup payload B past) - 1
  spare-b = ap (λ (ls : List Lending). length (filter (is_free (lent_places ls)) (all_places (rmbs_of setup B) (elements_of setup B)))) lent-b ∙ spare-less setup payload B past one (offered_place o) free

  tokens-b : length (lendings B (e ∷ past)) ≡ length (lendings B past) + 1
  tokens-b = sym (add-one (length (lendings B past)))

  -- B's manager
  pub accepts-own : manager_of setup payload regions B (e ∷ past) ≡ with_hand s (record (hand_at s here) { state = WaitsConfirm }) (starts s the_link (record here { desk = desk1 }))
  accepts-own =
      by-parts setup payload regions B (e ∷ past) (lends_next s desk1)
      (slice_set (each_socket (hand_of B past) setup.sockets) s (record (hand_at s here) { state = WaitsConfirm }))
      (slice_set (each_socket (conn_of setup payload B past) setup.sockets) s (Some (record { route = new_route the_link (next_element desk1) (length (lendings B past) + 1); end = record (fresh setup.number) { live = live_links desk1.links.known } })))
      (length (lendings B past) + 1) (length (free_places setup payload B past) - 1)
      desk-b
      (sym (set-socket (hand_of B past) (hand_of B (e ∷ past)) setup.sockets s (λ t d. hand-same B (e ∷ past) past t refl (state-else t d))) ∙ ap (λ h. slice_set (each_socket (hand_of B past) setup.sockets) s h) hand-here)
      (sym (set-socket (conn_of setup payload B past) (conn_of setup payload B (e ∷ past)) setup.sockets s conn-else) ∙ ap (λ (k : Option (Connection Half)). slice_set (each_socket (conn_of setup payload B past) setup.sockets) s k) conn-here)
      tokens-b spare-b

  pub accepts-theirs : manager_of setup payload regions A (e ∷ past) ≡ manager_of setup payload regions A past
  accepts-theirs =
      by-parts setup payload regions A (e ∷ past) (desk_of setup payload A past) (each_socket (hand_of A past) setup.sockets) (each_socket (conn_of setup payload A past) setup.sockets) (length (lendings A past)) (length (free_places setup payload A past))
      desk-a (same-sockets (hand_of A (e ∷ past)) (hand_of A past) (λ t. hand-same A (e ∷ past) past t refl (state-a t)) setup.sockets) (same-sockets (conn_of setup payload A (e ∷ past)) (conn_of setup payload A past) conn-a setup.sockets)
      refl (same-spare setup payload A (e ∷ past) past lent-a)

  -- each socket has its lending
  pub accepts-lendings : HasLendings setup payload (e ∷ past)
  accepts-lendings = record { each = by-side (λ y. (t : ℕ) → lending_on t (lent setup payload y (e ∷ past)) ≡ lending_due y t (e ∷ past)) of_a of_b }
    where
      of_a : (t : ℕ) → lending_on t (lent setup payload A (e ∷ past)) ≡ lending_due A t (e ∷ past)
      of_a t = ap (λ (ls : List Lending). lending_on t ls) lent-a ∙ (lendings_are.each A t ∙ sym (due-same A t (e ∷ past) past (state-a t) refl))

      of_b : (t : ℕ) → lending_on t (lent setup payload B (e ∷ past)) ≡ lending_due B t (e ∷ past)
      of_b =
          at-or-beside (λ k. lending_on k (lent setup payload B (e ∷ past)) ≡ lending_due B k (e ∷ past)) s
          (lending-here ∙ sym (lending-due B s (e ∷ past) (record { link = the_link; offer = o }) offer-b (ap (λ st. keeps_element st) state-here)))
          (λ t d. lending-else t d ∙ (lendings_are.each B t ∙ sym (due-same B t (e ∷ past) past (state-else t d) (offer-else t d))))

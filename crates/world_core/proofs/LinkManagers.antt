-- CONFIRM LINK at A, and the reply to it at B: the link goes live in the manager of the taker, the end of the socket of first contact
-- is established, and the other manager stays as it is.
use Rattle.smc_num.specs.Keys.{Key}
use Rattle.pipe_model.specs.Keys.{keys_of, book_of}
use Rattle.element_ledger.specs.Lendings.{Row}
use Rattle.std.proofs.Common.{◌≡◌, ◌∙◌, ℕ, ◌<◌, ◌==◌, ◌||◌, Bool, true, false, if◌then◌else◌, List, [], ◌∷◌, ◌++◌, map, refl, ap, sym}
use Rattle.std.specs.Prelude.{None, option_map, unwrap_or, slice_set, slice_index_or, is_some}
use Rattle.smc_num.specs.declared.Side.{Side}
use Rattle.smc_num.specs.declared.Side.TheVariants.{B}
use Rattle.smc_num.specs.declared.LinkId.{LinkId}
use Rattle.smc_num.specs.declared.LinkPhase.TheVariants.{Live as LiveLink}
use Rattle.smc_num.specs.Names.{other, up_to}
use Rattle.rmb_region.specs.Regions.{Buffer}
use Rattle.pipe_model.specs.declared.setup.Setup.{Setup}
use Rattle.pipe_model.specs.declared.entry.Entry.{Entry}
use Rattle.pipe_model.specs.History.{Offered}
use Rattle.pipe_model.specs.Fabric.{fabric, act_in}
use Rattle.pipe_model.specs.Ends.{Half, settle, comes_up, meets_fate}
use Rattle.pipe_model.specs.Pipe.{Item, Fate, Up, half, pipe}
use Rattle.pipe_model.specs.Connections.{IsUp, is_up, early_state, end_state, group_on, part}
use Rattle.pipe_model.specs.Lending.{Lending, lendings, lent, leaves_handshake, terms_of}
use Rattle.pipe_model.specs.Fallback.{is_raw}
use Rattle.pipe_model.specs.Messages.{act_pair, pair_on, serial}
use Rattle.clc_handshake.specs.Stages.{Hand}
use Rattle.pipe_model.specs.Posts.{groups_begun}
use Rattle.side_core.specs.Records.{Connection}
use Rattle.side_core.specs.Desk.{most_slots, goes_live}
use Rattle.side_core.specs.Manager.{no_hand}
use Rattle.world_core.specs.OneLink.{the_link, Stage, fabric_at, groups_at, keys_at, book_at, IsAtStage}
use Rattle.world_core.specs.Sockets.{IsWorld}
use Rattle.world_core.specs.Played.{IsPlayed}
use Rattle.world_core.specs.Agreement.{IsShaken}
use Rattle.world_core.specs.Managers.{desk_of, hand_of, conn_of, end_of, route_of, rows_of, first_on, each_socket, lending_on, HasLendings}
use Rattle.world_core.proofs.PipeSteps.{risen, risen-other}
use Rattle.world_core.proofs.Parts.{part-open}
use Rattle.world_core.proofs.UpEnds.{pipe-is-up}
use Rattle.world_core.proofs.PlainPosts.{ArePlain, offer-stays, lends-none, lendings-stay, pairs-stay, serial-stays, first-stays}
use Rattle.world_core.proofs.StillEntries.{lent-stays}
use Rattle.world_core.proofs.SameManagers.{desk_from, rows_from, hand-same}
use Rattle.world_core.proofs.Tables.{same-sockets, set-socket, at-socket}
use Rattle.world_core.proofs.Lendings.{no-lending-due}
use Rattle.world_core.proofs.Confirming.{Confirming, IsConfirming, IsWaiting, desk-lives, desk-other, group-stays, up-now, no-up-else, no-up-other, early-stays, items-first, is-waiting}

-- a connection hears that the link is live
abbrev pub hear : Connection Half → Connection Half
hear c = record c { end = meets_fate the_link LiveLink c.end }

-- it is established on its link
abbrev pub rise : ℕ → Connection Half → Connection Half
rise depth c = record c { route = record c.route { up = true }; end = settle depth (comes_up c.route.link c.end) }

pub map-map : {X Y Z : Type 0} (f : Y → Z) (g : X → Y) (xs : List X) → map f (map g xs) ≡ map (λ x. f (g x)) xs
map-map f g [] = refl
map-map f g (x ∷ xs) = ap (λ ys. f (g x) ∷ ys) (map-map f g xs)

-- a desk by how far the link has come
pub stage-desk : (setup : Setup) (payload : List ℕ) (x : Side) (stage : Stage) (past : List Entry) → IsAtStage setup stage past
    → desk_of setup payload x past ≡ desk_from setup x (fabric_at stage) (groups_at stage) (map (λ k. pair_on x k past) (up_to most_slots)) (serial x past) (keys_at x stage) (book_at x stage) (rows_of setup payload x past) (first_on x past)
stage-desk setup payload x stage past at =
    ap (λ f. desk_from setup x f (groups_begun past) (map (λ k. pair_on x k past) (up_to most_slots)) (serial x past) (keys_of x past) (book_of x past) (rows_of setup payload x past) (first_on x past)) at.fabric_is
    ∙ (ap (λ n. desk_from setup x (fabric_at stage) n (map (λ k. pair_on x k past) (up_to most_slots)) (serial x past) (keys_of x past) (book_of x past) (rows_of setup payload x past) (first_on x past)) at.groups
    ∙ (ap (λ ks. desk_from setup x (fabric_at stage) (groups_at stage) (map (λ k. pair_on x k past) (up_to most_slots)) (serial x past) ks (book_of x past) (rows_of setup payload x past) (first_on x past)) (at.keys x)
    ∙ ap (λ (b : List Key). desk_from setup x (fabric_at stage) (groups_at stage) (map (λ k. pair_on x k past) (up_to most_slots)) (serial x past) (keys_at x stage) b (rows_of setup payload x past) (first_on x past)) (at.book x)))

module _ {x : Side} {from to : Stage} {reply : Bool} (setup : Setup) (payload : List ℕ) (regions : List Buffer) (e : Entry) (past : List Entry) (c : Confirming x (first_on x past) from to reply)
    (world : IsWorld setup from past) (now : IsAtStage setup to (e ∷ past)) (i : IsConfirming payload x reply e past) (plain : ArePlain e.posts)
    (n : ℕ) (played : IsPlayed setup payload (e ∷ past) n) (shaken : IsShaken setup (e ∷ past)) (lendings_are : HasLendings setup payload past)
    (stays : (y : Side) (s : ℕ) → leaves_handshake y s e.event e.reply ≡ false) (unraw : (s : ℕ) → is_raw s (e ∷ past) ≡ is_raw s past) where
  pub w : IsWaiting setup x (first_on x past) past
  w = is-waiting setup past c world

  abbrev was-fabric : fabric past ≡ fabric_at from
  was-fabric = let l = world.link in l.fabric_is

  pub lent-now : (y : Side) → lent setup payload y (e ∷ past) ≡ lent setup payload y past
  lent-now y = lent-stays setup payload y e past (group-stays c setup payload e past was-fabric now.fabric_is i w y) (λ g s. part-open setup payload g s (e ∷ past) n played shaken) (lends-none e past plain y) (stays y)

  act-own : act_pair (act_in x e past) ≡ 0
  act-own = ap (λ a. act_pair a) i.act

  act-other : act_pair (act_in (other x) e past) ≡ 0
  act-other = ap (λ a. act_pair a) i.idle

  rows-now : (y : Side) → rows_of setup payload y (e ∷ past) ≡ rows_of setup payload y past
  rows-now y = ap (λ (all : List Lending). rows_from setup y all (lent setup payload y (e ∷ past))) (lendings-stay e past plain y) ∙ ap (λ (now : List Lending). rows_from setup y (lendings y past) now) (lent-now y)

  -- a desk after it, by how far the link has come
  desk-parts : (y : Side) → act_pair (act_in y e past) ≡ 0
      → desk_of setup payload y (e ∷ past) ≡ desk_from setup y (fabric_at to) (groups_at to) (map (λ k. pair_on y k past) (up_to most_slots)) (serial y past) (keys_at y to) (book_at y to) (rows_of setup payload y past) (first_on y past)
  desk-parts y none =
      stage-desk setup payload y to (e ∷ past) now
      ∙ (ap (λ (ns : List ℕ). desk_from setup y (fabric_at to) (groups_at to) ns (serial y (e ∷ past)) (keys_at y to) (book_at y to) (rows_of setup payload y (e ∷ past)) (first_on y (e ∷ past))) (pairs-stay e past plain y none)
      ∙ (ap (λ k. desk_from setup y (fabric_at to) (groups_at to) (map (λ k. pair_on y k past) (up_to most_slots)) k (keys_at y to) (book_at y to) (rows_of setup payload y (e ∷ past)) (first_on y (e ∷ past))) (serial-stays e past plain y none)
      ∙ (ap (λ (rs : List Row). desk_from setup y (fabric_at to) (groups_at to) (map (λ k. pair_on y k past) (up_to most_slots)) (serial y past) (keys_at y to) (book_at y to) rs (first_on y (e ∷ past))) (rows-now y)
      ∙ ap (λ k. desk_from setup y (fabric_at to) (groups_at to) (map (λ k. pair_on y k past) (up_to most_slots)) (serial y past) (keys_at y to) (book_at y to) (rows_of setup payload y past) k) (first-stays e past plain y))))

  pub own-desk : desk_of setup payload x (e ∷ past) ≡ goes_live 1 (desk_of setup payload x past)
  own-desk =
      desk-parts x act-own
      ∙ (desk-lives c setup (map (λ k. pair_on x k past) (up_to most_slots)) (serial x past) (rows_of setup payload x past) (first_on x past)
      ∙ ap (λ d. goes_live 1 d) (sym (stage-desk setup payload x from past world.link)))

  pub their-desk : desk_of setup payload (other x) (e ∷ past) ≡ desk_of setup payload (other x) past
  their-desk =
      desk-parts (other x) act-other
      ∙ (desk-other c setup (map (λ k. pair_on (other x) k past) (up_to most_slots)) (serial (other x) past) (rows_of setup payload (other x) past) (first_on (other x) past)
      ∙ sym (stage-desk setup payload (other x) from past world.link))

  -- the handshakes
  pub up-else : (s : ℕ) → (s == first_on x past) ≡ false → is_up x s (e ∷ past) ≡ is_up x s past
  up-else s d = ap (λ o. is_some o || is_up x s past) (no-up-else c setup payload e past was-fabric now.fabric_is i w s d)

  pub up-other : (s : ℕ) → is_up (other x) s (e ∷ past) ≡ is_up (other x) s past
  up-other s = ap (λ o. is_some o || is_up (other x) s past) (no-up-other c setup payload e past was-fabric now.fabric_is i w s)

  early-now : (y : Side) (s : ℕ) → early_state y s (e ∷ past) ≡ early_state y s past
  early-now = early-stays c setup payload e past was-fabric now.fabric_is i w

  pub is-up-now : is_up x (first_on x past) (e ∷ past) ≡ true
  is-up-now = ap (λ o. is_some o || is_up x (first_on x past) past) (up-now c setup payload e past was-fabric now.fabric_is i w)

  pub state-by : (y : Side) (s : ℕ) → is_up y s (e ∷ past) ≡ is_up y s past → end_state y s (e ∷ past) ≡ end_state y s past
  state-by y s same = ap (λ b. if b then IsUp else early_state y s (e ∷ past)) same ∙ ap (λ a. if is_up y s past then IsUp else a) (early-now y s)

  state-now : end_state x (first_on x past) (e ∷ past) ≡ IsUp
  state-now = ap (λ b. if b then IsUp else early_state x (first_on x past) (e ∷ past)) is-up-now

  hand-by : (y : Side) (s : ℕ) → end_state y s (e ∷ past) ≡ end_state y s past → hand_of y (e ∷ past) s ≡ hand_of y past s
  hand-by y s same = hand-same y (e ∷ past) past s (unraw s) same

  pub own-hands : first_on x past < setup.sockets → each_socket (hand_of x (e ∷ past)) setup.sockets
      ≡ slice_set (each_socket (hand_of x past) setup.sockets) (first_on x past) (record (slice_index_or (each_socket (hand_of x past) setup.sockets) (first_on x past) no_hand) { state = IsUp })
  own-hands l =
      sym (set-socket (hand_of x past) (hand_of x (e ∷ past)) setup.sockets (first_on x past) (λ s d. hand-by x s (state-by x s (up-else s d))))
      ∙ ap (λ h. slice_set (each_socket (hand_of x past) setup.sockets) (first_on x past) h)
      (ap (λ b. let h : Hand = record { raw = b; state = end_state x (first_on x past) (e ∷ past) } in h) (unraw (first_on x past))
      ∙ (ap (λ a. let h : Hand = record { raw = is_raw (first_on x past) past; state = a } in h) state-now
      ∙ ap (λ (h : Hand). let k : Hand = record h { state = IsUp } in k) (sym (at-socket (hand_of x past) setup.sockets (first_on x past) no_hand l))))

  pub their-hands : each_socket (hand_of (other x) (e ∷ past)) setup.sockets ≡ each_socket (hand_of (other x) past) setup.sockets
  their-hands = same-sockets (hand_of (other x) (e ∷ past)) (hand_of (other x) past) (λ s. hand-by (other x) s (state-by (other x) s (up-other s))) setup.sockets

  -- a socket to which nothing is lent has no connection
  no-conn : (y : Side) (h : List Entry) (s : ℕ) → lending_on s (lent setup payload y h) ≡ None → conn_of setup payload y h s ≡ None
  no-conn y h s none = ap (λ o. option_map (λ l. let k : Connection Half = record { route = route_of y s h l; end = end_of setup payload y s h } in k) o) none

  none-before : (y : Side) (s : ℕ) → (s == first_on x past) ≡ false → lending_on s (lent setup payload y past) ≡ None
  none-before y s d = lendings_are.each y s ∙ no-lending-due y s past (w.others s d y)

  none-after : (y : Side) (s : ℕ) → (s == first_on x past) ≡ false → lending_on s (lent setup payload y (e ∷ past)) ≡ None
  none-after y s d = ap (λ (ls : List Lending). lending_on s ls) (lent-now y) ∙ none-before y s d

  pub conn-else : (y : Side) (s : ℕ) → (s == first_on x past) ≡ false → conn_of setup payload y (e ∷ past) s ≡ None
  conn-else y s d = no-conn y (e ∷ past) s (none-after y s d)

  pub conn-else-before : (y : Side) (s : ℕ) → (s == first_on x past) ≡ false → conn_of setup payload y past s ≡ None
  conn-else-before y s d = no-conn y past s (none-before y s d)

  -- that of first contact
  pub group-is : group_on (first_on x past) past ≡ 1
  group-is = ap (λ o. unwrap_or (option_map (λ (link : LinkId). link.group) (option_map (λ (p : Offered). p.link) o)) 0) w.of_b

  group-now : group_on (first_on x past) (e ∷ past) ≡ 1
  group-now = ap (λ o. unwrap_or (option_map (λ (link : LinkId). link.group) (option_map (λ (p : Offered). p.link) o)) 0) (offer-stays e past plain B (first_on x past) ∙ w.of_b)

  part-now : part payload 1 (first_on x past) (e ∷ past) ≡ Up x the_link ∷ Fate x the_link LiveLink ∷ part payload 1 (first_on x past) past
  part-now = ap (λ (is : List Item). is ++ part payload 1 (first_on x past) past) (items-first c setup payload e past was-fabric now.fabric_is i w)

  end-by : (y : Side) → end_of setup payload y (first_on x past) (e ∷ past) ≡ half y (pipe (terms_of setup) (Up x the_link ∷ Fate x the_link LiveLink ∷ part payload 1 (first_on x past) past))
  end-by y = ap (λ g. half y (pipe (terms_of setup) (part payload g (first_on x past) (e ∷ past)))) group-now ∙ ap (λ (is : List Item). half y (pipe (terms_of setup) is)) part-now

  end-was : (y : Side) → end_of setup payload y (first_on x past) past ≡ half y (pipe (terms_of setup) (part payload 1 (first_on x past) past))
  end-was y = ap (λ g. half y (pipe (terms_of setup) (part payload g (first_on x past) past))) group-is

  down-before : (half x (pipe (terms_of setup) (part payload 1 (first_on x past) past))).up ≡ false
  down-before = let q = shaken.1 in let r = q.1 in pipe-is-up (terms_of setup) x payload 1 (first_on x past) past ∙ w.down

  pub end-risen : end_of setup payload x (first_on x past) (e ∷ past) ≡ settle setup.depth (comes_up the_link (meets_fate the_link LiveLink (end_of setup payload x (first_on x past) past)))
  end-risen =
      end-by x ∙ (risen (terms_of setup) (part payload 1 (first_on x past) past) the_link x down-before
      ∙ ap (λ h. settle setup.depth (comes_up the_link (meets_fate the_link LiveLink h))) (sym (end-was x)))

  pub end-theirs : end_of setup payload (other x) (first_on x past) (e ∷ past) ≡ end_of setup payload (other x) (first_on x past) past
  end-theirs = end-by (other x) ∙ (risen-other (terms_of setup) (part payload 1 (first_on x past) past) the_link x ∙ sym (end-was (other x)))

-- The managers of both sides as the link of first contact goes live at one of them, and what is posted then.
use Rattle.side_core.specs.Desk.{goes_live}
use Rattle.std.specs.List.{range_with_len}
use Rattle.clc_wire.specs.declared.offer.Offer.{Offer}
use Rattle.smc_num.specs.declared.LinkId.{LinkId}
use Rattle.std.proofs.Common.{◌≡◌, ◌∙◌, ℕ, ◌<◌, ◌==◌, Bool, true, false, if◌then◌else◌, List, ◌∷◌, length, map, refl, ap, sym}
use Rattle.std.specs.Prelude.{Option, Some, None, option_map, unwrap_or, slice_set, slice_index_or}
use Rattle.smc_num.specs.declared.Side.{Side}
use Rattle.smc_num.specs.declared.Side.TheVariants.{B}
use Rattle.smc_num.specs.declared.LinkPhase.TheVariants.{Live as LiveLink}
use Rattle.smc_num.specs.Names.{other, no_link}
use Rattle.rmb_region.specs.Regions.{Buffer}
use Rattle.pipe_model.specs.declared.setup.Setup.{Setup}
use Rattle.pipe_model.specs.declared.flow.FlowStep.TheVariants.{Live}
use Rattle.pipe_model.specs.declared.entry.Entry.{Entry}
use Rattle.pipe_model.specs.History.{Offered, offered}
use Rattle.pipe_model.specs.Ends.{Half, settle, comes_up, meets_fate}
use Rattle.pipe_model.specs.Connections.{IsUp, is_up, early_state, end_state, named_link}
use Rattle.pipe_model.specs.Lending.{Lending, lendings, lent, free_places, leaves_handshake}
use Rattle.pipe_model.specs.Fallback.{is_raw}
use Rattle.side_core.specs.Records.{Connection}
use Rattle.side_core.specs.Manager.{no_hand}
use Rattle.side_core.specs.Acting.{confirms_link}
use Rattle.world_core.specs.OneLink.{the_link, Stage, IsAtStage}
use Rattle.world_core.specs.Sockets.{IsWorld}
use Rattle.world_core.specs.Played.{IsPlayed}
use Rattle.world_core.specs.Agreement.{IsShaken}
use Rattle.world_core.specs.Managers.{manager_of, desk_of, hand_of, conn_of, end_of, first_on, heard_on, awaits_confirm, each_socket, lending_on, HasLendings}
use Rattle.world_core.proofs.PlainPosts.{ArePlain, offer-stays, lendings-stay}
use Rattle.world_core.proofs.SameManagers.{SameRoute, conn_from, same-conn, same-spare, route_from}
use Rattle.world_core.proofs.KeptManagers.{by-parts}
use Rattle.world_core.proofs.Tables.{same-sockets, set-socket, at-socket}
use Rattle.world_core.proofs.Confirming.{Confirming, IsConfirming, IsWaiting}
use Rattle.world_core.proofs.LinkManagers.{hear, rise, map-map, w, lent-now, own-desk, their-desk, own-hands, their-hands, conn-else, conn-else-before, end-risen, end-theirs, up-other, is-up-now, state-by}
use Rattle.world_core.proofs.Plain.{at-or-beside}

module _ {x : Side} {from to : Stage} {reply : Bool} (setup : Setup) (payload : List ℕ) (regions : List Buffer) (e : Entry) (past : List Entry) (c : Confirming x (first_on x past) from to reply)
    (world : IsWorld setup from past) (now : IsAtStage setup to (e ∷ past)) (i : IsConfirming payload x reply e past) (plain : ArePlain e.posts)
    (n : ℕ) (played : IsPlayed setup payload (e ∷ past) n) (shaken : IsShaken setup (e ∷ past)) (lendings_are : HasLendings setup payload past)
    (stays : (y : Side) (s : ℕ) → leaves_handshake y s e.event e.reply ≡ false) (unraw : (s : ℕ) → is_raw s (e ∷ past) ≡ is_raw s past) where
  lent-same : (y : Side) → lent setup payload y (e ∷ past) ≡ lent setup payload y past
  lent-same = lent-now setup payload regions e past c world now i plain n played shaken lendings_are stays unraw

  pub waits : IsWaiting setup x (first_on x past) past
  waits = w setup payload regions e past c world now i plain n played shaken lendings_are stays unraw

  pub named-is : named_link (first_on x past) past ≡ Some the_link
  named-is = ap (λ o. option_map (λ (p : Offered). p.link) o) waits.of_b

  pub heard-is : heard_on x (first_on x past) past ≡ Some waits.offer
  heard-is =
      ap (λ st. if awaits_confirm st then None else option_map (λ (p : Offered). p.offer) (offered (other x) (first_on x past) past)) waits.state
      ∙ ap (λ o. option_map (λ (p : Offered). p.offer) o) waits.theirs

  up-end : end_state x (first_on x past) (e ∷ past) ≡ IsUp
  up-end = ap (λ b. if b then IsUp else early_state x (first_on x past) (e ∷ past)) (is-up-now setup payload regions e past c world now i plain n played shaken lendings_are stays unraw)

  heard-now : heard_on x (first_on x past) (e ∷ past) ≡ heard_on x (first_on x past) past
  heard-now =
      ap (λ st. if awaits_confirm st then None else option_map (λ (p : Offered). p.offer) (offered (other x) (first_on x past) (e ∷ past))) up-end
      ∙ (ap (λ o. option_map (λ (p : Offered). p.offer) o) (offer-stays e past plain (other x) (first_on x past) ∙ waits.theirs) ∙ sym heard-is)

  named-now : named_link (first_on x past) (e ∷ past) ≡ named_link (first_on x past) past
  named-now = ap (λ o. option_map (λ (p : Offered). p.link) o) (offer-stays e past plain B (first_on x past))

  -- the connection of first contact
  risen-of : (link : Option LinkId) (all : List Lending) (heard : Option Offer) (h : Half) (found : Option Lending) → link ≡ Some the_link
      → option_map (λ l. let k : Connection Half = record { route = route_from link true all heard l; end = settle setup.depth (comes_up the_link (meets_fate the_link LiveLink h)) } in k) found
      ≡ option_map (rise setup.depth) (option_map hear (option_map (λ l. let k : Connection Half = record { route = route_from link false all heard l; end = h } in k) found))
  risen-of link all heard h None e = refl
  risen-of link all heard h (Some l) e = ap (λ o. Some (record { route = route_from link true all heard l; end = settle setup.depth (comes_up (unwrap_or o no_link) (meets_fate the_link LiveLink h)) })) (sym e)

  conn-risen : conn_of setup payload x (e ∷ past) (first_on x past) ≡ option_map (rise setup.depth) (option_map hear (conn_of setup payload x past (first_on x past)))
  conn-risen =
      ap (λ o. conn_from (first_on x past) o (is_up x (first_on x past) (e ∷ past)) (lendings x (e ∷ past)) (heard_on x (first_on x past) (e ∷ past)) (end_of setup payload x (first_on x past) (e ∷ past)) (lent setup payload x (e ∷ past))) named-now
      ∙ (ap (λ b. conn_from (first_on x past) (named_link (first_on x past) past) b (lendings x (e ∷ past)) (heard_on x (first_on x past) (e ∷ past)) (end_of setup payload x (first_on x past) (e ∷ past)) (lent setup payload x (e ∷ past)))
      (is-up-now setup payload regions e past c world now i plain n played shaken lendings_are stays unraw)
      ∙ (ap (λ (ls : List Lending). conn_from (first_on x past) (named_link (first_on x past) past) true ls (heard_on x (first_on x past) (e ∷ past)) (end_of setup payload x (first_on x past) (e ∷ past)) (lent setup payload x (e ∷ past))) (lendings-stay e past plain x)
      ∙ (ap (λ (o : Option Offer). conn_from (first_on x past) (named_link (first_on x past) past) true (lendings x past) o (end_of setup payload x (first_on x past) (e ∷ past)) (lent setup payload x (e ∷ past))) heard-now
      ∙ (ap (λ h. conn_from (first_on x past) (named_link (first_on x past) past) true (lendings x past) (heard_on x (first_on x past) past) h (lent setup payload x (e ∷ past)))
      (end-risen setup payload regions e past c world now i plain n played shaken lendings_are stays unraw)
      ∙ (ap (λ (ls : List Lending). conn_from (first_on x past) (named_link (first_on x past) past) true (lendings x past) (heard_on x (first_on x past) past) (settle setup.depth (comes_up the_link (meets_fate the_link LiveLink (end_of setup payload x (first_on x past) past)))) ls) (lent-same x)
      ∙ (risen-of (named_link (first_on x past) past) (lendings x past) (heard_on x (first_on x past) past) (end_of setup payload x (first_on x past) past) (lending_on (first_on x past) (lent setup payload x past)) named-is
      ∙ ap (λ b. option_map (rise setup.depth) (option_map hear (conn_from (first_on x past) (named_link (first_on x past) past) b (lendings x past) (heard_on x (first_on x past) past) (end_of setup payload x (first_on x past) past) (lent setup payload x past)))) (sym waits.down)))))))

  -- those of the others
  conn-other : (s : ℕ) → (s == first_on x past) ≡ false → conn_of setup payload x (e ∷ past) s ≡ option_map hear (conn_of setup payload x past s)
  conn-other s d =
      conn-else setup payload regions e past c world now i plain n played shaken lendings_are stays unraw x s d
      ∙ ap (λ k. option_map hear k) (sym (conn-else-before setup payload regions e past c world now i plain n played shaken lendings_are stays unraw x s d))

  heard-list : map (option_map hear) (each_socket (conn_of setup payload x past) setup.sockets) ≡ each_socket (λ s. option_map hear (conn_of setup payload x past s)) setup.sockets
  heard-list = map-map (option_map hear) (conn_of setup payload x past) (range_with_len 0 setup.sockets)

  pub heard-at : first_on x past < setup.sockets → slice_index_or (map (option_map hear) (each_socket (conn_of setup payload x past) setup.sockets)) (first_on x past) None ≡ option_map hear (conn_of setup payload x past (first_on x past))
  heard-at l = ap (λ (cs : List (Option (Connection Half))). slice_index_or cs (first_on x past) None) heard-list ∙ at-socket (λ s. option_map hear (conn_of setup payload x past s)) setup.sockets (first_on x past) None l

  conns-now : first_on x past < setup.sockets → each_socket (conn_of setup payload x (e ∷ past)) setup.sockets
      ≡ slice_set (map (option_map hear) (each_socket (conn_of setup payload x past) setup.sockets)) (first_on x past) (option_map (rise setup.depth) (slice_index_or (map (option_map hear) (each_socket (conn_of setup payload x past) setup.sockets)) (first_on x past) None))
  conns-now l =
      sym (set-socket (λ s. option_map hear (conn_of setup payload x past s)) (conn_of setup payload x (e ∷ past)) setup.sockets (first_on x past) conn-other)
      ∙ (ap (λ (k : Option (Connection Half)). slice_set (each_socket (λ s. option_map hear (conn_of setup payload x past s)) setup.sockets) (first_on x past) k) (conn-risen ∙ ap (λ k. option_map (rise setup.depth) k) (sym (heard-at l)))
      ∙ ap (λ (cs : List (Option (Connection Half))). slice_set cs (first_on x past) (option_map (rise setup.depth) (slice_index_or (map (option_map hear) (each_socket (conn_of setup payload x past) setup.sockets)) (first_on x past) None))) (sym heard-list))

  -- the manager of the side that takes the message
  pub taker-rises : first_on x past < setup.sockets → manager_of setup payload regions x (e ∷ past) ≡ confirms_link (Live reply true) the_link (manager_of setup payload regions x past)
  taker-rises l =
      by-parts setup payload regions x (e ∷ past) (goes_live 1 (desk_of setup payload x past))
      (slice_set (each_socket (hand_of x past) setup.sockets) (first_on x past) (record (slice_index_or (each_socket (hand_of x past) setup.sockets) (first_on x past) no_hand) { state = IsUp }))
      (slice_set (map (option_map hear) (each_socket (conn_of setup payload x past) setup.sockets)) (first_on x past) (option_map (rise setup.depth) (slice_index_or (map (option_map hear) (each_socket (conn_of setup payload x past) setup.sockets)) (first_on x past) None)))
      (length (lendings x past)) (length (free_places setup payload x past))
      (own-desk setup payload regions e past c world now i plain n played shaken lendings_are stays unraw)
      (own-hands setup payload regions e past c world now i plain n played shaken lendings_are stays unraw l)
      (conns-now l)
      (ap (λ (ls : List Lending). length ls) (lendings-stay e past plain x)) (same-spare setup payload x (e ∷ past) past (lent-same x))

  -- and that of the other
  route-theirs : SameRoute (other x) (e ∷ past) past (first_on x past)
  route-theirs = record {
    up = up-other setup payload regions e past c world now i plain n played shaken lendings_are stays unraw (first_on x past);
    link = named-now;
    heard =
        ap (λ st. if awaits_confirm st then None else option_map (λ (p : Offered). p.offer) (offered (other (other x)) (first_on x past) (e ∷ past)))
        (state-by setup payload regions e past c world now i plain n played shaken lendings_are stays unraw (other x) (first_on x past) (up-other setup payload regions e past c world now i plain n played shaken lendings_are stays unraw (first_on x past)))
        ∙ ap (λ o. if awaits_confirm (end_state (other x) (first_on x past) past) then None else option_map (λ (p : Offered). p.offer) o) (offer-stays e past plain (other (other x)) (first_on x past));
  }

  conn-theirs : (s : ℕ) → conn_of setup payload (other x) (e ∷ past) s ≡ conn_of setup payload (other x) past s
  conn-theirs =
      at-or-beside (λ k. conn_of setup payload (other x) (e ∷ past) k ≡ conn_of setup payload (other x) past k) (first_on x past)
      (same-conn setup payload (other x) (e ∷ past) past (first_on x past) route-theirs (lendings-stay e past plain (other x)) (lent-same (other x)) (end-theirs setup payload regions e past c world now i plain n played shaken lendings_are stays unraw))
      (λ s d. conn-else setup payload regions e past c world now i plain n played shaken lendings_are stays unraw (other x) s d
      ∙ sym (conn-else-before setup payload regions e past c world now i plain n played shaken lendings_are stays unraw (other x) s d))

  pub other-stays : manager_of setup payload regions (other x) (e ∷ past) ≡ manager_of setup payload regions (other x) past
  other-stays =
      by-parts setup payload regions (other x) (e ∷ past) (desk_of setup payload (other x) past) (each_socket (hand_of (other x) past) setup.sockets) (each_socket (conn_of setup payload (other x) past) setup.sockets)
      (length (lendings (other x) past)) (length (free_places setup payload (other x) past))
      (their-desk setup payload regions e past c world now i plain n played shaken lendings_are stays unraw)
      (their-hands setup payload regions e past c world now i plain n played shaken lendings_are stays unraw)
      (same-sockets (conn_of setup payload (other x) (e ∷ past)) (conn_of setup payload (other x) past) conn-theirs setup.sockets)
      (ap (λ (ls : List Lending). length ls) (lendings-stay e past plain (other x))) (same-spare setup payload (other x) (e ∷ past) past (lent-same (other x)))

-- The end whose messages carry the token of an offer is that of the offer's socket, once it is up.
use Rattle.std.proofs.Common.{◌≡◌, ◌∙◌, ℕ, ◌<◌, ◌≤◌, ◌==◌, Bool, true, false, if◌then◌else◌, List, length, refl, ap, sym, true≢false, arith, eqb-true, eq-eqb}
use Rattle.std.specs.Prelude.{Option, Some, None, cond, nat_lt, option_map, unwrap_or, slice_index_or}
use Rattle.std.proofs.lemmas.Bool.{ltb-false, ltb-true}
use Rattle.std.proofs.lemmas.List.{get_or_past}
use Rattle.smc_num.specs.declared.Side.{Side}
use Rattle.smc_num.specs.Names.{other}
use Rattle.clc_wire.specs.declared.offer.Offer.{Offer}
use Rattle.cdc_wire.specs.declared.CdcMessage.{CdcMessage}
use Rattle.smc_num.specs.declared.LinkId.{LinkId}
use Rattle.rmb_region.specs.Regions.{Buffer}
use Rattle.pipe_model.specs.declared.post.Post.TheVariants.{Cdc}
use Rattle.pipe_model.specs.declared.setup.Setup.{Setup}
use Rattle.pipe_model.specs.declared.entry.Entry.{Entry}
use Rattle.pipe_model.specs.Words.{passes}
use Rattle.pipe_model.specs.History.{Offered, offered}
use Rattle.pipe_model.specs.Ends.{Half, fresh}
use Rattle.pipe_model.specs.Connections.{IsUp, is_up, end_state, early_state}
use Rattle.pipe_model.specs.Lending.{Lending, lends_by, lent}
use Rattle.side_core.specs.Records.{Connection, Records, conn_at, half_at, is_aimed_at, aimer}
use Rattle.side_core.proofs.Sockets.{one_may_pass}
use Rattle.world_core.specs.Agreement.{HasOffers}
use Rattle.world_core.specs.Managers.{manager_of, records_of, conn_of, end_of, heard_on, route_of, lending_on, awaits_confirm, keeps_element, HasLendings}
use Rattle.world_core.specs.Sending.{plain_of, no_snapshot}
use Rattle.world_core.proofs.Tables.{at-socket, sockets-long}
use Rattle.world_core.proofs.Lendings.{lending-due}

module _ (setup : Setup) (payload : List ℕ) (past : List Entry) (offers : HasOffers setup past) (lendings : HasLendings setup payload past) (x : Side) where
  abbrev R : Records Half
  R = records_of setup payload x past

  -- the connection of a known socket
  there : (s : ℕ) → s < setup.sockets → conn_at s R ≡ conn_of setup payload x past s
  there s l = at-socket (conn_of setup payload x past) setup.sockets s None l

  beyond : (s : ℕ) → setup.sockets ≤ s → conn_at s R ≡ None
  beyond s l = let n : length R.by_socket ≡ setup.sockets = sockets-long (conn_of setup payload x past) setup.sockets in get_or_past R.by_socket s None (omega (arith, n, l))

  abbrev conn_with : ℕ → Option Lending → Option (Connection Half)
  conn_with s q = option_map (λ l. let c : Connection Half = record { route = route_of x s past l; end = end_of setup payload x s past } in c) q

  abbrev heard_as : Bool → Option Offered → Option Offer
  heard_as b o = if b then None else option_map (λ o. o.offer) o

  -- only an offer names an end
  heard-offer : (token : ℕ) (b : Bool) (o : Option Offered) → passes (λ (r : Offer). r.token == token) (heard_as b o) ≡ true → (r : Offered) × ((o ≡ Some r) × (r.offer.token ≡ token))
  heard-offer token true o e = absurd (true≢false (sym e))
  heard-offer token false None e = absurd (true≢false (sym e))
  heard-offer token false (Some r) e = (r, (refl, eqb-true r.offer.token token e))

  aimed-offer : (token t : ℕ) (q : Option Lending) → is_aimed_at token (conn_with t q) ≡ true → (r : Offered) × ((offered (other x) t past ≡ Some r) × (r.offer.token ≡ token))
  aimed-offer token t None e = absurd (true≢false (sym e))
  aimed-offer token t (Some l) e = heard-offer token (awaits_confirm (end_state x t past)) (offered (other x) t past) e

  module _ (s : ℕ) (o : Offered) (f : offered (other x) s past ≡ Some o) (own : Offered) (g : offered x s past ≡ Some own) (up : is_up x s past ≡ true) where
    known : s < setup.sockets
    known = offers.known (other x) s o f

    state : end_state x s past ≡ IsUp
    state = ap (λ b. if b then IsUp else early_state x s past) up

    lent-here : lending_on s (lent setup payload x past) ≡ Some (lends_by s own.link own.offer)
    lent-here = lendings.each x s ∙ lending-due x s past own g (ap (λ st. keeps_element st) state)

    conn-here : conn_at s R ≡ conn_with s (Some (lends_by s own.link own.offer))
    conn-here = there s known ∙ ap (λ q. conn_with s q) lent-here

    heard-here : heard_on x s past ≡ Some o.offer
    heard-here = ap (λ st. heard_as (awaits_confirm st) (offered (other x) s past)) state ∙ ap (λ q. heard_as false q) f

    aimed-here : is_aimed_at o.offer.token (conn_at s R) ≡ true
    aimed-here = ap (λ c. is_aimed_at o.offer.token c) conn-here ∙ ap (λ h. passes (λ (r : Offer). r.token == o.offer.token) h) heard-here ∙ eq-eqb o.offer.token o.offer.token refl

    alone : (t : ℕ) → is_aimed_at o.offer.token (slice_index_or R.by_socket t None) ≡ true → t ≡ s
    alone t e = by (nat_lt t setup.sockets) refl
      where
        by : (b : Bool) → nat_lt t setup.sockets ≡ b → t ≡ s
        by true l =
            let known_t : t < setup.sockets = ltb-true t setup.sockets l in
            let a = aimed-offer o.offer.token t (lending_on t (lent setup payload x past)) (ap (λ c. is_aimed_at o.offer.token c) (sym (there t known_t)) ∙ e) in
            let b = a.1 in
            offers.tokens (other x) t s a.0 o b.0 f b.1
        by false l = absurd (true≢false (sym e ∙ ap (λ c. is_aimed_at o.offer.token c) (beyond t (ltb-false t setup.sockets l))))

    -- its messages carry the token
    pub aimed : aimer o.offer.token R ≡ Some s
    aimed = one_may_pass (is_aimed_at o.offer.token) R.by_socket None s refl alone ∙ ap (λ b. cond b (Some s) None) aimed-here

    end-here : half_at s R ≡ end_of setup payload x s past
    end-here = ap (λ c. unwrap_or (option_map (λ (k : Connection Half). k.end) c) (fresh R.terms.number)) conn-here

    -- the snapshot that it posted last stands beside them
    pub plain-here : (regions : List Buffer) (from : Side) (link : LinkId) (m : CdcMessage) → m.token ≡ o.offer.token → plain_of (manager_of setup payload regions x past) (Cdc from link m) ≡ (end_of setup payload x s past).last
    plain-here regions from link m e =
        ap (λ t. unwrap_or (option_map (λ i. (half_at i R).last) (aimer t R)) no_snapshot) e ∙
        (ap (λ q. unwrap_or (option_map (λ i. (half_at i R).last) q) no_snapshot) aimed ∙ ap (λ (h : Half). h.last) end-here)

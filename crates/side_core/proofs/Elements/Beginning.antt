-- First contact begins with an offer.
-- A reader learns here that what is offered after the group has begun is what was due before.
use Rattle.std.proofs.Common.{ℕ, ◌≡◌, ◌∙◌, Bool, true, sym, ap}
use Rattle.smc_num.specs.declared.LinkId.{LinkId}
use Rattle.clc_wire.specs.declared.offer.Offer.{Offer}
use Rattle.pipe_model.specs.Messages.{offer}
use Rattle.side_core.specs.Desk.{Desk, begins_group, pair_at, pair_next, own_key, next_place, new_offer}

-- the offer of a side
abbrev offer_by : Desk → Bool → LinkId → ℕ → ℕ → ℕ → Offer
offer_by d first link qp key token = offer d.setup d.side first link qp key (next_place d) token

pub begun_offer : (d new : Desk) (s rmb token : ℕ) (link : LinkId) → new ≡ begins_group s link rmb d → rmb ≡ (next_place d).rmb
    → pair_at link.slot new ≡ pair_next link.slot d → own_key rmb link.slot new ≡ own_key rmb link.slot d
    → offer new.setup new.side true link (pair_at link.slot new) (own_key (next_place new).rmb link.slot new) (next_place new) token ≡ new_offer true link token d
begun_offer d new s rmb token link is at pair key =
    ap (λ (n : Desk). offer_by n true link (pair_at link.slot new) (own_key (next_place n).rmb link.slot new) token) is
    ∙ ap (λ qp. offer_by d true link qp (own_key (next_place d).rmb link.slot new) token) pair
    ∙ ap (λ r. offer_by d true link (pair_next link.slot d) (own_key r link.slot new) token) (sym at)
    ∙ ap (λ k. offer_by d true link (pair_next link.slot d) k token) key
    ∙ ap (λ r. offer_by d true link (pair_next link.slot d) (own_key r link.slot d) token) at

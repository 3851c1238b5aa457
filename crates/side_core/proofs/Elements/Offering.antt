-- The posts of an offer.
-- A reader learns here that an Accept or a Confirm that was pushed is the one that is due.
use Rattle.std.proofs.Common.{ℕ, ◌≡◌, ◌∙◌, Bool, List, [], ◌∷◌, ◌++◌, Some, ap}
use Rattle.smc_num.specs.declared.Side.{Side}
use Rattle.smc_num.specs.declared.LinkId.{LinkId}
use Rattle.clc_wire.specs.declared.offer.Offer.{Offer}
use Rattle.clc_wire.specs.declared.message.ClcMessage.TheVariants.{Accept, Confirm}
use Rattle.pipe_model.specs.declared.post.Post.{Post}
use Rattle.pipe_model.specs.declared.post.Post.TheVariants.{Clc}
use Rattle.pipe_model.specs.Ends.{Half}
use Rattle.side_core.specs.Manager.{Manager}
use Rattle.side_core.specs.Taking.{offer_for}

pub accept_post : (before after : List Post) (s : ℕ) (x : Side) (o : Offer) (first : Bool) (link to : LinkId) (m : Manager Half) → after ≡ before ++ Clc x s (Some link) (Accept o) ∷ []
    → x ≡ m.desk.side → link ≡ to → o ≡ offer_for first link m → after ≡ before ++ Clc m.desk.side s (Some to) (Accept (offer_for first to m)) ∷ []
accept_post before after s x o first link to m posts side same offer =
    posts ∙ ap (λ y. before ++ Clc y s (Some link) (Accept o) ∷ []) side ∙ ap (λ q. before ++ Clc m.desk.side s (Some link) (Accept q) ∷ []) offer
    ∙ ap (λ l. before ++ Clc m.desk.side s (Some l) (Accept (offer_for first l m)) ∷ []) same

pub confirm_post : (before after : List Post) (s : ℕ) (x : Side) (o : Offer) (first : Bool) (link : LinkId) (m : Manager Half) → after ≡ before ++ Clc x s (Some link) (Confirm o) ∷ []
    → x ≡ m.desk.side → o ≡ offer_for first link m → after ≡ before ++ Clc m.desk.side s (Some link) (Confirm (offer_for first link m)) ∷ []
confirm_post before after s x o first link m posts side offer =
    posts ∙ ap (λ y. before ++ Clc y s (Some link) (Confirm o) ∷ []) side ∙ ap (λ q. before ++ Clc m.desk.side s (Some link) (Confirm q) ∷ []) offer

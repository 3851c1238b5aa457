-- An element that a side has offered stays lent, and its token names it, until the end falls back: no end of this world is ever over.
use Rattle.pipe_model.specs.Lending.{lent}
use Rattle.std.proofs.Common.{◌≡◌}
use Rattle.std.specs.Prelude.{find, List, Some, false, ℕ, ◌==◌}
use Rattle.world_core.specs.OneLink.{the_link}
use Rattle.world_core.proofs.Records.{still-lent}
use Rattle.pipe_model.specs.History.{offered}
use Rattle.smc_num.specs.declared.Side.{Side}
use Rattle.pipe_model.specs.Fallback.{is_fallen}
use Rattle.clc_wire.specs.declared.offer.Offer.{Offer}
use Rattle.pipe_model.specs.declared.setup.Setup.{Setup}
use Rattle.world_core.specs.Played.{IsOneLink, IsPlayed}
use Rattle.pipe_model.specs.Lending.{lends_by, record_of}
use Rattle.world_core.specs.Sockets.{on_link}
use Rattle.pipe_model.specs.declared.entry.Entry.{Entry}
use Rattle.world_core.proofs.NeverOver.{was-never-over}

module _ (setup : Setup) (one : IsOneLink setup) (payload : List ℕ) where
  pub stays-lent : (past : List Entry) (n : ℕ) → IsPlayed setup payload past n → (x : Side) (s : ℕ) (o : Offer) → offered x s past ≡ on_link o → is_fallen x s past ≡ false
      → (find (λ l. l.s == s) (lent setup payload x past) ≡ Some (lends_by s the_link o)) × (record_of setup payload x o.token past ≡ Some (lends_by s the_link o))
  stays-lent past n p x s o = still-lent setup one payload past n p x (was-never-over setup one payload past n p x) s o

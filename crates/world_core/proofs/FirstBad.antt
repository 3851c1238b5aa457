-- The fields are tested in three parts, one after another.
use Rattle.std.specs.Prelude.{◌≡◌, ◌+◌, ◌*◌, ◌==◌, nat_le, ℕ, Bool, true, false, Option}
use Rattle.std.specs.Option.{option_or}
use Rattle.std.proofs.Common.{ap, refl, ◌∙◌}
use Rattle.smc_num.specs.declared.Side.TheVariants.{A, B}
use Rattle.pipe_model.specs.declared.setup.Setup.{Setup}
use Rattle.pipe_model.specs.Words.{rmbs_of, elements_of}
use Rattle.world_core.specs.declared.settings.Field.{Field}
use Rattle.world_core.specs.declared.settings.BadField.{BadField}
use Rattle.world_core.specs.declared.settings.Field.TheVariants.{Subnet, Links, Size, Rmbs, Elements}
use Rattle.world_core.specs.Settings.{is_subnet, or_bad, or_bad_link, or_bad_rmb, subnet_of, within}

-- what comes after a field comes after it and all behind it
or-later : (field : Field) (value : ℕ) (good : Bool) (x later : Option BadField) → option_or (or_bad field value good x) later ≡ or_bad field value good (option_or x later)
or-later field value true x later = refl
or-later field value false x later = refl

pub after-links : (setup : Setup) (x later : Option BadField) → option_or (or_bad_link setup x) later ≡ or_bad_link setup (option_or x later)
after-links setup x later =
    let a = subnet_of setup A in
    let b = subnet_of setup B in
    or-later (Subnet A) (a.0 * 256 + a.1) (is_subnet a) _ later
    ∙ ap (λ o. or_bad (Subnet A) (a.0 * 256 + a.1) (is_subnet a) o) (or-later (Subnet B) (b.0 * 256 + b.1) (is_subnet b) _ later
    ∙ ap (λ o. or_bad (Subnet B) (b.0 * 256 + b.1) (is_subnet b) o) (or-later Links setup.links (setup.links == 1) _ later
    ∙ ap (λ o. or_bad Links setup.links (setup.links == 1) o) (or-later Size setup.size_code (nat_le setup.size_code 5) x later)))

pub after-rmbs : (setup : Setup) (x later : Option BadField) → option_or (or_bad_rmb setup x) later ≡ or_bad_rmb setup (option_or x later)
after-rmbs setup x later =
    or-later (Rmbs A) (rmbs_of setup A) (rmbs_of setup A == 1) _ later
    ∙ ap (λ o. or_bad (Rmbs A) (rmbs_of setup A) (rmbs_of setup A == 1) o) (or-later (Rmbs B) (rmbs_of setup B) (rmbs_of setup B == 1) _ later
    ∙ ap (λ o. or_bad (Rmbs B) (rmbs_of setup B) (rmbs_of setup B == 1) o) (or-later (Elements A) (elements_of setup A) (within 1 32 (elements_of setup A)) _ later
    ∙ ap (λ o. or_bad (Elements A) (elements_of setup A) (within 1 32 (elements_of setup A)) o) (or-later (Elements B) (elements_of setup B) (within 1 32 (elements_of setup B)) x later)))

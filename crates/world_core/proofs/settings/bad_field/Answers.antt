-- The three parts make the whole.
use Rattle.std.specs.Prelude.{None}
use Rattle.std.specs.Option.{option_or}
use Rattle.std.proofs.Common.{ap, ◌∙◌}
use Rattle.world_core.specs.Settings.{or_bad_link, or_bad_rmb}
use Rattle.world_core.proofs.FirstBad.{after-links, after-rmbs}
use Rattle.world_core.proofs.settings.bad_field.Goals as goal

pub returns : goal.returns
returns c =
    let setup = c.args.setup.now in
    let rmb = c.bad_rmb.result in
    let count = c.bad_count.result in
    c.or-2.ensures
    ∙ (ap (λ o. option_or o count) (c.or.ensures ∙ (ap (λ o. option_or o rmb) c.bad_link.ensures ∙ after-links setup None rmb))
    ∙ (after-links setup rmb count
    ∙ ap (λ o. or_bad_link setup o) (ap (λ o. option_or o count) c.bad_rmb.ensures ∙ (after-rmbs setup None count ∙ ap (λ o. or_bad_rmb setup o) c.bad_count.ensures))))

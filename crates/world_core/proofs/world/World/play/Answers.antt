-- An entry is added, and the world stands for its history with it.
use Rattle.std.proofs.Common.{◌<◌, ◌≡◌, ◌∙◌, ◌++◌, ◌∷◌, [], ℕ, ap, sym, subst, length, vec_capacity, option_to_list, refl, None, List, reverse}
use Rattle.pipe_model.specs.declared.entry.Entry.{Entry}
use Rattle.pipe_model.specs.declared.post.Post.{Post}
use Rattle.pipe_model.specs.declared.reply.Reply.{Reply}
use Rattle.world_core.specs.Heard.{told_bytes}
use Rattle.world_core.specs.Hosts.{paths_after}
use Rattle.pipe_model.specs.Fits.{Fits}
use Rattle.pipe_model.specs.Lawful.{IsStep}
use Rattle.world_core.specs.Steps.{Seen, entry_of, past, refusal, stepped, opened_socket, reply_to, told_by}
use Rattle.world_core.proofs.WorldAfter.{IsMoment, has_room, opened-fits, world-after, played-in, told-in, entry-in, world-of-parts}
use Rattle.world_core.proofs.LawfulWorlds.{step_is_lawful, world_is_lawful}
use Rattle.world_core.proofs.world.World.play.Goals as goal

pub act-reply-requires-clause-paths : goal.act-reply-requires-clause-paths
act-reply-requires-clause-paths c =
    let v = c.self.inside in
    let k = c.self.invariant in
    c.deref-3.ensures.value ∙ (k.paths_are ∙ ap (λ (es : List Entry). paths_after v.setup (reverse es)) (sym c.deref-2.ensures.value))

pub note_opened-requires : goal.note_opened-requires
note_opened-requires c =
    let v = c.self.inside in
    let w : Seen = record { setup = v.setup; payload = v.payload.items; room = v.room; history = v.history.items; heard = v.heard.items } in
    let r = has_room w c.args.event (subst (λ u. refusal u c.args.event ≡ None) (sym c.self.view_is) c.requires.room) in
    let f = opened-fits w v.a v.b v.opened.items v.paths.items _ _ _ c.self.invariant r.0 in
    subst (λ n. n < vec_capacity v.opened) (sym v.opened.ok.0) f

pub invariant_of-self : goal.invariant_of-self
invariant_of-self c =
    let v = c.self.inside in
    let w : Seen = record { setup = v.setup; payload = v.payload.items; room = v.room; history = v.history.items; heard = v.heard.items } in
    let room = subst (λ u. refusal u c.args.event ≡ None) (sym c.self.view_is) c.requires.room in
    let i : IsMoment _ w = record { setup_is = refl; payload_is = c.deref.ensures.value; history_is = c.deref-2.ensures.value; heard_is = c.len.ensures ∙ v.heard.ok.0 } in
    let p = played-in _ w c.args.event c.act-reply.result c.act-reply.new.posts.items c.act-reply.new.a c.act-reply.new.b i c.act-reply.ensures.played in
    let after = world-after w v.a v.b v.opened.items v.paths.items _ _ _ c.self.invariant c.args.actor c.args.event room c.act-reply.new.a c.act-reply.new.b _ _ _ (p.after c.args.actor)
    c.push_within.ensures.capacity c.act-reply.ensures.capacity c.note_opened.ensures.capacity in
    let heard : c.act-reply.new.heard.items ≡ v.heard.items ++ told_bytes (told_by w c.args.event) = c.act-reply.ensures.heard ∙ ap (λ (bs : List ℕ). v.heard.items ++ bs) (told-in _ w c.args.event i) in
    let entry = entry-in w c.args.actor c.args.event c.act-reply.result c.act-reply.new.posts.items c.act-reply.new.a c.act-reply.new.b p in
    let pushed : c.push_within.new.list.items ≡ (stepped c.args.actor c.args.event w).history =
    c.push_within.ensures.items ∙ ap (λ (ps : List Post). v.history.items ++ (let e : Entry = record { actor = c.args.actor; event = c.args.event; reply = c.act-reply.result; posts = ps } in e) ∷ []) c.of.ensures
    ∙ ap (λ (e : Entry). v.history.items ++ e ∷ []) entry in
    let noted : c.note_opened.new.opened.items ≡ v.opened.items ++ option_to_list (opened_socket c.args.event (reply_to w c.args.event)) =
    c.note_opened.ensures.items ∙ ap (λ (r : Reply). v.opened.items ++ option_to_list (opened_socket c.args.event r)) p.reply_is in
    world-of-parts w _ _ (stepped c.args.actor c.args.event w) _ _ _ _ _ _ _ _ pushed heard noted refl refl refl after

pub returns-clause-lawful : goal.returns-clause-lawful
returns-clause-lawful c =
    let v = c.self.inside in
    let w : Seen = record { setup = v.setup; payload = v.payload.items; room = v.room; history = v.history.items; heard = v.heard.items } in
    let fits = subst (λ (u : Seen). Fits u.setup (length u.payload) c.args.event) (sym c.self.view_is) c.requires.fits in
    let i : IsMoment _ w = record { setup_is = refl; payload_is = c.deref.ensures.value; history_is = c.deref-2.ensures.value; heard_is = c.len.ensures ∙ v.heard.ok.0 } in
    let p = played-in _ w c.args.event c.act-reply.result c.act-reply.new.posts.items c.act-reply.new.a c.act-reply.new.b i c.act-reply.ensures.played in
    let heard : c.act-reply.new.heard.items ≡ v.heard.items ++ told_bytes (told_by w c.args.event) = c.act-reply.ensures.heard ∙ ap (λ (bs : List ℕ). v.heard.items ++ bs) (told-in _ w c.args.event i) in
    subst (λ (u : Seen). IsStep u.setup u.payload (past u) u.heard (entry_of u.setup u.payload (past u) (length u.heard) c.args.actor c.args.event) c.act-reply.new.heard.items) c.self.view_is
    (subst (λ (bs : List ℕ). IsStep w.setup w.payload (past w) w.heard (entry_of w.setup w.payload (past w) (length w.heard) c.args.actor c.args.event) bs) (sym heard)
    (step_is_lawful w (world_is_lawful w v.a v.b v.opened.items v.paths.items _ _ _ c.self.invariant) c.args.actor c.args.event fits))

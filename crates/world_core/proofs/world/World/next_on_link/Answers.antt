-- The wires of both sides are asked in turn.
use Rattle.std.proofs.Common.{◌≡◌, ◌∙◌, Some, None, sym, subst, length}
use Rattle.std.specs.List.{find, flat_map}
use Rattle.smc_num.specs.Names.{up_to}
use Rattle.smc_num.specs.declared.Side.TheVariants.{A, B}
use Rattle.pipe_model.specs.declared.event.Event.TheVariants.{Deliver, Complete}
use Rattle.world_core.specs.Steps.{Seen, does_something, past, slot_events, told_by}
use Rattle.world_core.proofs.HostsSwapped.{turned}
use Rattle.world_core.proofs.LinkTold.{would-land, would-complete}
use Rattle.world_core.proofs.NextEvents.{one-slot, lands-a, lands-b, completes-a, completes-b, nothing-moves}
use Rattle.world_core.proofs.world.World.next_on_link.Goals as goal

pub returns-then-can_land-clause-first : goal.returns-then-can_land-clause-first
returns-then-can_land-clause-first c =
    let v = c.self.inside in
    let w : Seen = record { setup = v.setup; payload = v.payload.items; room = v.room; history = v.history.items; heard = v.heard.items } in
    let k = c.self.invariant in
    let set = (let h = k.hosts in h.set) in
    subst (λ (u : Seen). Some (Deliver 1 A) ≡ find (λ event. does_something (told_by u event)) (flat_map slot_events (up_to u.setup.links))) c.self.view_is
    (one-slot (λ event. does_something (told_by w event)) w.setup.links (Some (Deliver 1 A)) set.one.links
    (lands-a (λ event. does_something (told_by w event)) (sym (would-land w.setup w.payload (past w) (length w.heard) A v.a v.b k.hosts) ∙ (sym c.can_land.ensures ∙ c.if-can_land.true))))

pub returns-then-can_land-2-clause-first : goal.returns-then-can_land-2-clause-first
returns-then-can_land-2-clause-first c =
    let v = c.self.inside in
    let w : Seen = record { setup = v.setup; payload = v.payload.items; room = v.room; history = v.history.items; heard = v.heard.items } in
    let k = c.self.invariant in
    let set = (let h = k.hosts in h.set) in
    subst (λ (u : Seen). Some (Deliver 1 B) ≡ find (λ event. does_something (told_by u event)) (flat_map slot_events (up_to u.setup.links))) c.self.view_is
    (one-slot (λ event. does_something (told_by w event)) w.setup.links (Some (Deliver 1 B)) set.one.links
    (lands-b (λ event. does_something (told_by w event)) (sym (would-land w.setup w.payload (past w) (length w.heard) A v.a v.b k.hosts) ∙ (sym c.can_land.ensures ∙ c.if-can_land.false)) (sym (would-land w.setup w.payload (past w) (length w.heard) B v.b v.a (turned w.setup w.payload (past w) (length w.heard) v.a v.b k.hosts)) ∙ (sym c.can_land-2.ensures ∙ c.if-can_land-2.true))))

pub returns-then-can_complete-clause-first : goal.returns-then-can_complete-clause-first
returns-then-can_complete-clause-first c =
    let v = c.self.inside in
    let w : Seen = record { setup = v.setup; payload = v.payload.items; room = v.room; history = v.history.items; heard = v.heard.items } in
    let k = c.self.invariant in
    let set = (let h = k.hosts in h.set) in
    subst (λ (u : Seen). Some (Complete 1 A) ≡ find (λ event. does_something (told_by u event)) (flat_map slot_events (up_to u.setup.links))) c.self.view_is
    (one-slot (λ event. does_something (told_by w event)) w.setup.links (Some (Complete 1 A)) set.one.links
    (completes-a (λ event. does_something (told_by w event)) (sym (would-land w.setup w.payload (past w) (length w.heard) A v.a v.b k.hosts) ∙ (sym c.can_land.ensures ∙ c.if-can_land.false)) (sym (would-land w.setup w.payload (past w) (length w.heard) B v.b v.a (turned w.setup w.payload (past w) (length w.heard) v.a v.b k.hosts)) ∙ (sym c.can_land-2.ensures ∙ c.if-can_land-2.false)) (sym (would-complete w.setup w.payload (past w) (length w.heard) A v.a v.b k.hosts) ∙ (sym c.can_complete.ensures ∙ c.if-can_complete.true))))

pub returns-then-can_complete-2-clause-first : goal.returns-then-can_complete-2-clause-first
returns-then-can_complete-2-clause-first c =
    let v = c.self.inside in
    let w : Seen = record { setup = v.setup; payload = v.payload.items; room = v.room; history = v.history.items; heard = v.heard.items } in
    let k = c.self.invariant in
    let set = (let h = k.hosts in h.set) in
    subst (λ (u : Seen). Some (Complete 1 B) ≡ find (λ event. does_something (told_by u event)) (flat_map slot_events (up_to u.setup.links))) c.self.view_is
    (one-slot (λ event. does_something (told_by w event)) w.setup.links (Some (Complete 1 B)) set.one.links
    (completes-b (λ event. does_something (told_by w event)) (sym (would-land w.setup w.payload (past w) (length w.heard) A v.a v.b k.hosts) ∙ (sym c.can_land.ensures ∙ c.if-can_land.false)) (sym (would-land w.setup w.payload (past w) (length w.heard) B v.b v.a (turned w.setup w.payload (past w) (length w.heard) v.a v.b k.hosts)) ∙ (sym c.can_land-2.ensures ∙ c.if-can_land-2.false)) (sym (would-complete w.setup w.payload (past w) (length w.heard) A v.a v.b k.hosts) ∙ (sym c.can_complete.ensures ∙ c.if-can_complete.false)) (sym (would-complete w.setup w.payload (past w) (length w.heard) B v.b v.a (turned w.setup w.payload (past w) (length w.heard) v.a v.b k.hosts)) ∙ (sym c.can_complete-2.ensures ∙ c.if-can_complete-2.true))))

pub returns-clause-first : goal.returns-clause-first
returns-clause-first c =
    let v = c.self.inside in
    let w : Seen = record { setup = v.setup; payload = v.payload.items; room = v.room; history = v.history.items; heard = v.heard.items } in
    let k = c.self.invariant in
    let set = (let h = k.hosts in h.set) in
    subst (λ (u : Seen). None ≡ find (λ event. does_something (told_by u event)) (flat_map slot_events (up_to u.setup.links))) c.self.view_is
    (one-slot (λ event. does_something (told_by w event)) w.setup.links (None) set.one.links
    (nothing-moves (λ event. does_something (told_by w event)) (sym (would-land w.setup w.payload (past w) (length w.heard) A v.a v.b k.hosts) ∙ (sym c.can_land.ensures ∙ c.if-can_land.false)) (sym (would-land w.setup w.payload (past w) (length w.heard) B v.b v.a (turned w.setup w.payload (past w) (length w.heard) v.a v.b k.hosts)) ∙ (sym c.can_land-2.ensures ∙ c.if-can_land-2.false)) (sym (would-complete w.setup w.payload (past w) (length w.heard) A v.a v.b k.hosts) ∙ (sym c.can_complete.ensures ∙ c.if-can_complete.false)) (sym (would-complete w.setup w.payload (past w) (length w.heard) B v.b v.a (turned w.setup w.payload (past w) (length w.heard) v.a v.b k.hosts)) ∙ (sym c.can_complete-2.ensures ∙ c.if-can_complete-2.false))))

-- Every run of steps keeps a world lawful: a fresh world is so, each entry is a lawful step, and so is the whole history.
use Rattle.std.specs.Prelude.{◌≡◌, ℕ, ◌<◌, ◌++◌, ◌∷◌, [], ◌+◌, Bool, true, false, cond, List, length, Option, Some, None, option_to_list}
use Rattle.std.specs.List.{find, flat_map}
use Rattle.std.proofs.Common.{ap, refl, sym, subst, ◌∙◌, length-append}
use Rattle.std.proofs.lemmas.List.{reverse-append}
use Rattle.smc_num.specs.Names.{up_to}
use Rattle.pipe_model.specs.declared.setup.Setup.{Setup}
use Rattle.pipe_model.specs.declared.setup.Room.{Room}
use Rattle.pipe_model.specs.declared.entry.Entry.{Entry}
use Rattle.pipe_model.specs.declared.entry.StepFault.{StepFault}
use Rattle.pipe_model.specs.declared.event.Event.{Event}
use Rattle.pipe_model.specs.declared.event.Event.TheVariants.{Open}
use Rattle.pipe_model.specs.declared.reply.Reply.{Reply}
use Rattle.pipe_model.specs.declared.reply.Reply.TheVariants.{Opened}
use Rattle.pipe_model.specs.Fits.{Fits}
use Rattle.pipe_model.specs.Calls.{Told}
use Rattle.pipe_model.specs.Lawful.{IsStep, IsLawful, IsLawfulPast, claims_bytes}
use Rattle.world_core.specs.Settings.{bad_field}
use Rattle.world_core.specs.Played.{IsMade, IsPlayed, handed}
use Rattle.world_core.specs.Heard.{told_bytes, all_bytes}
use Rattle.world_core.specs.Steps.{Seen, past, fresh_world, entry_of, refusal, stepped, world_or, after_step, after_pump, world_after_next, next_event, candidates, slot_events, socket_events, told_by, does_something, opened_socket, opening_order}
use Rattle.world_core.specs.Hosts.{IsWorldAfter}
use Rattle.world_core.specs.LawfulWorlds.{IsLawfulWorld}
use Rattle.world_core.specs.declared.host.Host.{Host}
use Rattle.world_core.proofs.GoodSettings.{good}
use Rattle.world_core.proofs.WorldAfter.{told-long}
use Rattle.world_core.proofs.LawfulPasts.{lawful-step, lawful-past, all-heard, is-given}

-- a fresh world
pub fresh_is_lawful : (setup : Setup) (payload : List ℕ) (room : Room) → bad_field setup room ≡ None → IsLawfulWorld (fresh_world setup payload room)
fresh_is_lawful setup payload room e = let g = good setup room e in record { one = g.one; played = refl; heard_is = refl }

-- a world that its hosts stand for
pub world_is_lawful : (w : Seen) (a b : Host) (opened : List ℕ) (paths : List Bool) (history_room heard_room opened_room : ℕ) → IsWorldAfter w a b opened paths history_room heard_room opened_room → IsLawfulWorld w
world_is_lawful w a b opened paths history_room heard_room opened_room k = let h = k.hosts in let set = h.set in record { one = set.one; played = h.played; heard_is = k.heard_is }

module _ (w : Seen) (l : IsLawfulWorld w) where
  -- its history is lawful
  pub history_is_lawful : IsLawful w.setup w.payload w.history w.heard
  history_is_lawful = subst (λ (bs : List ℕ). IsLawfulPast w.setup w.payload (past w) bs) (sym l.heard_is)
      (lawful-past w.setup l.one w.payload (past w) (length w.heard) l.played (all_bytes w.setup w.payload (past w)) (all-heard w.setup w.payload (past w)))

  module _ (actor : ℕ) (event : Event) (fits : Fits w.setup (length w.payload) event) where
    made-now : IsMade w.setup w.payload (past w) (length w.heard) (entry_of w.setup w.payload (past w) (length w.heard) actor event)
    made-now = record { built = fits; reply = refl; posts = refl }

    -- an event that fits makes a lawful step
    pub step_is_lawful : IsStep w.setup w.payload (past w) w.heard (entry_of w.setup w.payload (past w) (length w.heard) actor event) (w.heard ++ told_bytes (told_by w event))
    step_is_lawful =
        let t : Told = told_by w event in
        lawful-step w.setup l.one w.payload (entry_of w.setup w.payload (past w) (length w.heard) actor event) (past w) (length w.heard + handed t) (length w.heard, made-now, refl, l.played) w.heard (w.heard ++ told_bytes t) refl
        (record { given = told_bytes t; heard_is = refl; given_is = is-given (claims_bytes w.setup w.payload (past w) event) t })

    -- and leads to a lawful world
    pub stepped_is_lawful : IsLawfulWorld (stepped actor event w)
    stepped_is_lawful =
        let t : Told = told_by w event in
        let long : length (w.heard ++ told_bytes t) ≡ length w.heard + handed t = length-append w.heard (told_bytes t) ∙ ap (λ n. length w.heard + n) (told-long t) in
        let now : past (stepped actor event w) ≡ entry_of w.setup w.payload (past w) (length w.heard) actor event ∷ past w = reverse-append w.history (entry_of w.setup w.payload (past w) (length w.heard) actor event ∷ []) in
        record {
          one = l.one;
          played = subst (λ (es : List Entry). IsPlayed w.setup w.payload es (length (w.heard ++ told_bytes t))) (sym now) (length w.heard, made-now, long, l.played);
          heard_is = ap (λ (bs : List ℕ). bs ++ told_bytes t) l.heard_is ∙ ap (λ (es : List Entry). all_bytes w.setup w.payload es) (sym now);
        }

either-world : (fault : Option StepFault) (new old : Seen) → IsLawfulWorld new → IsLawfulWorld old → IsLawfulWorld (world_or fault new old)
either-world None new old l m = l
either-world (Some fault) new old l m = m

-- a step, refused or not, leads to a lawful world
pub step_stays_lawful : (w : Seen) → IsLawfulWorld w → (actor : ℕ) (event : Event) → Fits w.setup (length w.payload) event → IsLawfulWorld (after_step actor event w)
step_stays_lawful w l actor event fits = either-world (refusal w event) (stepped actor event w) w (stepped_is_lawful w l actor event fits) l

-- something holds of each event of a list
abbrev EachFits : Setup → ℕ → List Event → Type 0
EachFits setup payload [] = Unit {0}
EachFits setup payload (event ∷ events) = Fits setup payload event × EachFits setup payload events

fits-append : (setup : Setup) (payload : ℕ) (es fs : List Event) → EachFits setup payload es → EachFits setup payload fs → EachFits setup payload (es ++ fs)
fits-append setup payload [] fs p q = q
fits-append setup payload (e ∷ es) fs p q = (p.0, fits-append setup payload es fs p.1 q)

here-is : (e event : Event) → Some e ≡ Some event → e ≡ event
here-is e event f = cc

found-fits : (setup : Setup) (payload : ℕ) (test : Event → Bool) (events : List Event) → EachFits setup payload events → (event : Event) → find test events ≡ Some event → Fits setup payload event
found-fits setup payload test [] p event f = cc
found-fits setup payload test (e ∷ es) p event f = by (test e) f (found-fits setup payload test es p.1 event)
  where
    by : (b : Bool) → cond b (Some e) (find test es) ≡ Some event → (find test es ≡ Some event → Fits setup payload event) → Fits setup payload event
    by true g later = subst (λ o. Fits setup payload o) (here-is e event g) p.0
    by false g later = later g

-- the sockets that were opened are known ones
abbrev EachKnown : Setup → List ℕ → Type 0
EachKnown setup [] = Unit {0}
EachKnown setup (s ∷ ss) = (s < setup.sockets) × EachKnown setup ss

known-append : (setup : Setup) (ss ts : List ℕ) → EachKnown setup ss → EachKnown setup ts → EachKnown setup (ss ++ ts)
known-append setup [] ts p q = q
known-append setup (s ∷ ss) ts p q = (p.0, known-append setup ss ts p.1 q)

known-one : (setup : Setup) (payload : ℕ) (event : Event) (reply : Reply) → Fits setup payload event → EachKnown setup (option_to_list (opened_socket event reply))
known-one setup payload (Open s) Opened b = (b, tt)
known-one setup payload _ _ b = tt

known-all : (setup : Setup) (payload : List ℕ) (es : List Entry) (n : ℕ) → IsPlayed setup payload es n → EachKnown setup (opening_order es)
known-all setup payload [] n p = tt
known-all setup payload (e ∷ es) n p = let m = p.1 in
    known-append setup (opening_order es) (option_to_list (opened_socket e.event e.reply)) (known-all setup payload es p.0 p.3) (known-one setup (length payload) e.event e.reply m.built)

fits-known : (setup : Setup) (payload : ℕ) (ss : List ℕ) → EachKnown setup ss → EachFits setup payload (flat_map socket_events ss)
fits-known setup payload [] p = tt
fits-known setup payload (s ∷ ss) p = (p.0, (p.0, fits-known setup payload ss p.1))

-- all that a pump looks at fits
candidates-fit : (w : Seen) → IsLawfulWorld w → EachFits w.setup (length w.payload) (candidates w.setup (past w))
candidates-fit w l =
    let one = l.one in
    fits-append w.setup (length w.payload) (flat_map slot_events (up_to w.setup.links)) (flat_map socket_events (opening_order (past w)))
    (subst (λ n. EachFits w.setup (length w.payload) (flat_map slot_events (up_to n))) (sym one.links) (refl, (refl, (refl, (refl, tt)))))
    (fits-known w.setup (length w.payload) (opening_order (past w)) (known-all w.setup w.payload (past w) (length w.heard) l.played))

-- the next event of a lawful world fits
pub next_fits : (w : Seen) → IsLawfulWorld w → (event : Event) → next_event w ≡ Some event → Fits w.setup (length w.payload) event
next_fits w l event f = found-fits w.setup (length w.payload) (λ event. does_something (told_by w event)) (candidates w.setup (past w)) (candidates-fit w l) event f

-- a pump leads to a lawful world
pub pump_stays_lawful : (w : Seen) → IsLawfulWorld w → (actor : ℕ) → IsLawfulWorld (after_pump actor w)
pump_stays_lawful w l actor = by (next_event w) refl
  where
    by : (o : Option Event) → next_event w ≡ o → IsLawfulWorld (world_after_next o actor w)
    by None e = l
    by (Some event) e = step_stays_lawful w l actor event (next_fits w l event e)

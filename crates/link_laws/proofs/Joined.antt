-- One induction: after every history whose entries are given by the definitions, links, flows, wires and first contact are right together.
use Rattle.std.proofs.Common.{List, None, Some, [], ap, length, refl, sym, ℕ, ◌∙◌, ◌∷◌, ◌≡◌}
use Rattle.std.specs.Prelude.{Option}
use Rattle.std.specs.Option.{option_or}
use Rattle.pipe_model.specs.Lawful.{IsLawfulPast}
use Rattle.history_laws.specs.Words.{Entry, Setup}
use Rattle.history_laws.proofs.Basics.{none-is}
use Rattle.history_laws.specs.Made.{IsMadeAll, IsMade}
use Rattle.link_laws.specs.UnderWay.{HasFlows, kind_in, link_kind, living}
use Rattle.link_laws.proofs.UnderWay.{GoesOn, any-goes, flows-at-first, flows-go-on, goes-on, link-in}
use Rattle.link_laws.specs.Linked.{Under, under_in}
use Rattle.link_laws.specs.Joined.{HasAllFlows, HasContact}
use Rattle.link_laws.specs.Owed.{OwedByHandshake}
use Rattle.link_laws.proofs.Contact.{contacted, contacted-first, owed}
use Rattle.link_laws.proofs.Requests.{keys-at-first, keys-go-on, test-at-first, test-goes-on}
use Rattle.link_laws.specs.Lasting.{AllFlows}

-- nothing comes under way where nothing of the link flow is posted
none-after : (e : Entry) (past : List Entry) (all : HasFlows past) (g : GoesOn e past all.under) → all.under ≡ None → kind_in link_kind e.posts ≡ None → HasFlows.under (goes-on e past all g) ≡ None
none-after e past all g none quiet = by g.new g.left (sym g.posted ∙ quiet) (left g.left refl)
  where
    left : (u : Option Under) → g.left ≡ u → u ≡ None
    left None is = refl
    left (Some w) is = absurd (none-is w (sym none ∙ g.kept w is))

    by : (new left : Option Under) → new ≡ None → left ≡ None → living (e ∷ past) (option_or new left) ≡ None
    by new rest p q = ap (λ u. living (e ∷ past) (option_or u rest)) p ∙ ap (λ u. living (e ∷ past) u) q

module _ (setup : Setup) (payload : List ℕ) (past : List Entry) (all : HasContact past) where
  -- what first contact owes, for what is under way of the link flow
  pub pays : OwedByHandshake setup payload past (HasFlows.under all.flows)
  pays = let f : HasFlows past = all.flows in owed setup payload past f.under f.linked all.contacted

  -- the step
  pub contact-goes-on : (before : ℕ) (e : Entry) → IsMade setup payload past before e → HasContact (e ∷ past)
  contact-goes-on before e given = record {
    flows = flows-go-on setup payload past all.flows pays before e given;
    contacted = contacted setup payload past f.under before e given (HasFlows.under (flows-go-on setup payload past all.flows pays before e given)) quiet f.linked f.carried all.contacted;
  }
    where
      f : HasFlows past
      f = all.flows

      quiet : HasFlows.under all.flows ≡ None → under_in e.posts ≡ None → HasFlows.under (flows-go-on setup payload past all.flows pays before e given) ≡ None
      quiet none now = none-after e past all.flows (any-goes setup payload past all.flows pays before e given) none (link-in e.posts ∙ now)

-- after every history
pub has-contact : (setup : Setup) (payload : List ℕ) (past : List Entry) → IsMadeAll setup payload past → HasContact past
has-contact setup payload [] given = record { flows = flows-at-first; contacted = contacted-first }
has-contact setup payload (e ∷ past) given = contact-goes-on setup payload past (has-contact setup payload past given.1) given.0.0 e given.0.1

-- and the key flows and tests with it
pub all-flows : (setup : Setup) (payload : List ℕ) (past : List Entry) → IsMadeAll setup payload past → HasAllFlows past
all-flows setup payload [] given = record { links = has-contact setup payload [] given; keys = λ x. keys-at-first x; tests = λ x k. test-at-first x k }
all-flows setup payload (e ∷ past) given = by (all-flows setup payload past given.1)
  where
    by : HasAllFlows past → HasAllFlows (e ∷ past)
    by was = record {
      links = contact-goes-on setup payload past was.links given.0.0 e given.0.1;
      keys = λ x. keys-go-on setup payload past (HasContact.flows was.links) (pays setup payload past was.links) x (was.keys x) given.0.0 e given.0.1;
      tests = λ x k. test-goes-on setup payload past (HasContact.flows was.links) (pays setup payload past was.links) x k (was.tests x k) given.0.0 e given.0.1;
    }

-- each entry of a lawful history has the reply and the posts of the definitions
lawful-given : (setup : Setup) (payload : List ℕ) (past : List Entry) (heard : List ℕ) → IsLawfulPast setup payload past heard → IsMadeAll setup payload past
lawful-given setup payload [] heard lawful = tt
lawful-given setup payload (e ∷ past) heard lawful = ((length lawful.0, record { reply = lawful.1.reply; posts = lawful.1.posts }), lawful-given setup payload past lawful.0 lawful.2)

-- so all of it holds after every lawful history
pub lawful-flows : (setup : Setup) (payload : List ℕ) (past : List Entry) (heard : List ℕ) → IsLawfulPast setup payload past heard → HasAllFlows past
lawful-flows setup payload past heard lawful = all-flows setup payload past (lawful-given setup payload past heard lawful)

-- before each entry links and flows are as they should be, and the handshake owes nothing to them
pub flows-of : (setup : Setup) (payload : List ℕ) (past : List Entry) → IsMadeAll setup payload past → AllFlows setup payload past
flows-of setup payload [] m = tt
flows-of setup payload (e ∷ past) m = let c : HasContact past = has-contact setup payload past m.1 in ((c.flows, pays setup payload past c), flows-of setup payload past m.1)

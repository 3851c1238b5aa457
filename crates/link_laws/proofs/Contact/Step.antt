-- The step of first contact: after any entry that is as the definitions give it, the rows, the offers and the counts hold again.
use Rattle.std.proofs.Common.{List, None, Some, [], ap, arith, refl, subst, sym, true, true≢false, ℕ, ◌++◌, ◌∙◌, ◌∷◌, ◌≡◌, ◌≤◌}
use Rattle.std.specs.Prelude.{Option}
use Rattle.pipe_model.specs.Replies.{told}
use Rattle.pipe_model.specs.Lawful.{asked, posted}
use Rattle.pipe_model.specs.declared.event.Event.TheVariants.{Clc, Raw, Write}
use Rattle.history_laws.specs.Words.{A, Abort, Await, B, Close, Complete, Cut, Deliver, Entry, Event, Finish, Grow, Heal, Move, NoEnd, Open, Post, Read, Report, Setup, Swallow, Test, Trim, WaitsProposal, act_by, connection_posts, draft, early_state, fabric, group_of, groups_begun, reply_of, stands, table_of}
use Rattle.history_laws.specs.Posts.{AreData}
use Rattle.history_laws.proofs.Basics.{by-side, none-is}
use Rattle.history_laws.proofs.Posts.{connections-data}
use Rattle.history_laws.specs.Made.{IsMade}
use Rattle.history_laws.specs.Offers.{is_own_state}
use Rattle.link_laws.specs.Linked.{AreLinked, Under, under_in}
use Rattle.link_laws.specs.UnderWay.{AreCarriedOf, link_kind}
use Rattle.link_laws.proofs.UnderWay.{alive-is}
use Rattle.link_laws.specs.Joined.{IsContacted}
use Rattle.link_laws.proofs.Contact.Changes.{Kind}
use Rattle.link_laws.proofs.Contact.Offers.{offers-after}
use Rattle.link_laws.proofs.Contact.Rows.{contact-after}
use Rattle.link_laws.proofs.Contact.Counted.{counted-after}
use Rattle.link_laws.proofs.Contact.Beyond.{beyond-after}
use Rattle.link_laws.proofs.Contact.Openings.{opens-kind, raw-kind}
use Rattle.link_laws.proofs.Contact.TakenAtB.{taken-at-b}
use Rattle.link_laws.proofs.Contact.TakenAtA.{taken-at-a}
use Rattle.link_laws.proofs.Contact.Delivered.{deliver-kind}
use Rattle.link_laws.proofs.Contact.Others.{grow-kind, quiet-kind, report-kind, test-kind, trim-kind}
use Rattle.link_laws.proofs.Contact.Elsewhere.{data-under}
use Rattle.link_laws.specs.Contact.{NoContact}

-- what is under way after an entry is nothing, where nothing was and nothing of the link flow is posted
abbrev pub IsQuiet : List Entry → Option Under → Entry → Option Under → Type 0
IsQuiet past under e after = under ≡ None → under_in e.posts ≡ None → after ≡ None

-- where B knows no link nothing of the link flow is under way
bare-none : (past : List Entry) (under : Option Under) → AreCarriedOf link_kind past under → table_of B past ≡ [] → under ≡ None
bare-none past None carried e = refl
bare-none past (Some w) carried e = let h = alive-is w.link past (carried.alive w refl) in absurd (true≢false (sym (h.1 B) ∙ ap (λ ks. stands w.link ks) e))

-- by the kind of the entry
pub contacted-by : (past : List Entry) (under : Option Under) (e : Entry) (after : Option Under) → IsQuiet past under e after → AreLinked (fabric past) under → AreCarriedOf link_kind past under → IsContacted past under → Kind past under e → IsContacted (e ∷ past) after
contacted-by past under e after quiet linked carried all kind = record {
  offers = offers-after past under e linked all.offers all.counted all.contact kind;
  contact = contact-after past under e linked all.offers all.counted all.contact after quiet (bare-none past under carried) kind;
  counted = counted-after past under e all.offers all.counted kind;
  beyond = beyond-after past under e linked all.offers all.counted all.contact all.beyond kind;
}

module _ (setup : Setup) (payload : List ℕ) (past : List Entry) (under : Option Under) (n actor : ℕ) (linked : AreLinked (fabric past) under) (carried : AreCarriedOf link_kind past under) (all : IsContacted past under) where
  -- the kind of an entry whose posts are these and those of the connections
  abbrev K : Event → List Post → Type 0
  K event rest = Kind past under (record { actor = actor; event = event; reply = reply_of n (told setup payload past event); posts = asked setup payload past event (reply_of n (told setup payload past event)) ++ rest })

  kinds : (event : Event) (rest : List Post) → AreData rest → K event rest
  kinds (Open s) rest d = opens-kind setup payload past under actor s rest d all.offers
  kinds (Raw s at len) rest d = raw-kind setup payload past under actor s rest d all.offers at len
  kinds (Clc s A) rest d = taken-at-b setup payload past under actor s rest d linked all.offers all.counted
  kinds (Clc s B) rest d = taken-at-a setup payload past under actor s rest d all.offers all.counted all.beyond
  kinds (Deliver slot dir) rest d = deliver-kind setup payload past under actor rest d linked carried slot dir
  kinds (Report x k) rest d = report-kind setup payload past under actor rest d linked x k
  kinds Grow rest d = grow-kind setup payload past under actor rest d linked
  kinds (Test x k) rest d = test-kind setup payload past under actor rest d linked x k
  kinds (Trim x) rest d = trim-kind setup payload past under actor rest d linked x
  kinds (Write end at len) rest d = quiet-kind setup payload past under actor rest d linked (Write end at len) (reply_of n (told setup payload past (Write end at len))) refl (by-side (λ y. act_by y (Write end at len) (reply_of n (told setup payload past (Write end at len))) past ≡ None) refl refl) refl (data-under rest d)
  kinds (Read end len) rest d = quiet-kind setup payload past under actor rest d linked (Read end len) (reply_of n (told setup payload past (Read end len))) refl (by-side (λ y. act_by y (Read end len) (reply_of n (told setup payload past (Read end len))) past ≡ None) refl refl) refl (data-under rest d)
  kinds (Finish end) rest d = quiet-kind setup payload past under actor rest d linked (Finish end) (reply_of n (told setup payload past (Finish end))) refl (by-side (λ y. act_by y (Finish end) (reply_of n (told setup payload past (Finish end))) past ≡ None) refl refl) refl (data-under rest d)
  kinds (Close end) rest d = quiet-kind setup payload past under actor rest d linked (Close end) (reply_of n (told setup payload past (Close end))) refl (by-side (λ y. act_by y (Close end) (reply_of n (told setup payload past (Close end))) past ≡ None) refl refl) refl (data-under rest d)
  kinds (Abort end) rest d = quiet-kind setup payload past under actor rest d linked (Abort end) (reply_of n (told setup payload past (Abort end))) refl (by-side (λ y. act_by y (Abort end) (reply_of n (told setup payload past (Abort end))) past ≡ None) refl refl) refl (data-under rest d)
  kinds (Await end) rest d = quiet-kind setup payload past under actor rest d linked (Await end) (reply_of n (told setup payload past (Await end))) refl (by-side (λ y. act_by y (Await end) (reply_of n (told setup payload past (Await end))) past ≡ None) refl refl) refl (data-under rest d)
  kinds (Complete slot dir) rest d = quiet-kind setup payload past under actor rest d linked (Complete slot dir) (reply_of n (told setup payload past (Complete slot dir))) refl (by-side (λ y. act_by y (Complete slot dir) (reply_of n (told setup payload past (Complete slot dir))) past ≡ None) refl refl) refl (data-under rest d)
  kinds (Swallow slot dir) rest d = quiet-kind setup payload past under actor rest d linked (Swallow slot dir) (reply_of n (told setup payload past (Swallow slot dir))) refl (by-side (λ y. act_by y (Swallow slot dir) (reply_of n (told setup payload past (Swallow slot dir))) past ≡ None) refl refl) refl (data-under rest d)
  kinds (Cut k) rest d = quiet-kind setup payload past under actor rest d linked (Cut k) (reply_of n (told setup payload past (Cut k))) refl (by-side (λ y. act_by y (Cut k) (reply_of n (told setup payload past (Cut k))) past ≡ None) refl refl) refl (data-under rest d)
  kinds (Heal k) rest d = quiet-kind setup payload past under actor rest d linked (Heal k) (reply_of n (told setup payload past (Heal k))) refl (by-side (λ y. act_by y (Heal k) (reply_of n (told setup payload past (Heal k))) past ≡ None) refl refl) refl (data-under rest d)
  kinds (Move end) rest d = quiet-kind setup payload past under actor rest d linked (Move end) (reply_of n (told setup payload past (Move end))) refl (by-side (λ y. act_by y (Move end) (reply_of n (told setup payload past (Move end))) past ≡ None) refl refl) refl (data-under rest d)

  -- the step for the entry as it is made
  pub contacted-after : (event : Event) (after : Option Under) → IsQuiet past under (record { actor = actor; event = event; reply = reply_of n (told setup payload past event); posts = posted setup payload past n event }) after → IsContacted (record { actor = actor; event = event; reply = reply_of n (told setup payload past event); posts = posted setup payload past n event } ∷ past) after
  contacted-after event after quiet = contacted-by past under (record { actor = actor; event = event; reply = reply_of n (told setup payload past event); posts = posted setup payload past n event }) after quiet linked carried all (kinds event (connection_posts setup payload (draft setup payload past n event) past) (connections-data setup payload (draft setup payload past n event) past))

-- which kind of entry one is that has just the reply and the posts of the definitions
pub kind-given : (setup : Setup) (payload : List ℕ) (past : List Entry) (under : Option Under) (n : ℕ) (e : Entry) → IsMade setup payload past n e → AreLinked (fabric past) under → AreCarriedOf link_kind past under → IsContacted past under → Kind past under e
kind-given setup payload past under n e given linked carried all =
    subst (λ r. Kind past under (record { actor = e.actor; event = e.event; reply = r; posts = e.posts })) (sym given.reply)
    (subst (λ ps. Kind past under (record { actor = e.actor; event = e.event; reply = reply_of n (told setup payload past e.event); posts = ps })) (sym given.posts)
    (kinds setup payload past under n e.actor linked carried all e.event (connection_posts setup payload (draft setup payload past n e.event) past) (connections-data setup payload (draft setup payload past n e.event) past)))

-- the step: after an entry that has just the reply and the posts of the definitions, offers, rows, counts and "beyond" hold again
pub contacted : (setup : Setup) (payload : List ℕ) (past : List Entry) (under : Option Under) (n : ℕ) (e : Entry) → IsMade setup payload past n e → (after : Option Under) → IsQuiet past under e after → AreLinked (fabric past) under → AreCarriedOf link_kind past under → IsContacted past under → IsContacted (e ∷ past) after
contacted setup payload past under n e given after quiet linked carried all = by quiet
  where
    by : IsQuiet past under e after → IsContacted (e ∷ past) after
    by = subst (λ r. IsQuiet past under (record { actor = e.actor; event = e.event; reply = r; posts = e.posts }) after → IsContacted (record { actor = e.actor; event = e.event; reply = r; posts = e.posts } ∷ past) after) (sym given.reply)
        (subst (λ ps. IsQuiet past under (record { actor = e.actor; event = e.event; reply = reply_of n (told setup payload past e.event); posts = ps }) after → IsContacted (record { actor = e.actor; event = e.event; reply = reply_of n (told setup payload past e.event); posts = ps } ∷ past) after) (sym given.posts)
        (contacted-after setup payload past under n e.actor linked carried all e.event after))

-- before anything has happened
pub contacted-first : IsContacted [] None
contacted-first = record {
  offers = record {
    some = λ s o h. absurd (none-is o h);
    begun = λ x s o h. absurd (none-is o h);
    psn = λ x s o h. absurd (none-is o h);
    made = λ s o h f. absurd (none-is o h);
    stands = λ x ne. refl;
    ended = λ x g h. absurd (true≢false (sym h));
    proposed = λ s r w. absurd (no_end w);
    plain = λ s h. absurd (true≢false (sym h));
    fresh = λ s o r. record { untaken = λ x. refl; none = λ x. refl; early = λ x. refl; up = λ x. refl };
    sided = by-side (λ x. (s : ℕ) → is_own_state x (early_state x s []) ≡ true) (λ s. refl) (λ s. refl);
    accepted = λ s r. tt;
    lone = λ s r. refl;
  };
  contact = NoContact (λ s. record { from_a = tt; from_b = tt });
  counted = record { at_most = by-side (λ x. group_of x [] ≤ groups_begun []) (omega arith) (omega arith); last = λ ne. absurd (ne refl) };
  beyond = record { first = λ x s o h. absurd (none-is o h); pending = λ x s o h. absurd (none-is o h) };
}
  where
    no_end : NoEnd ≡ WaitsProposal → ⊥
    no_end e = cc

-- After every history of so many entries its posts and links are bounded, so that each message can be written.
use Rattle.std.proofs.Common.{All, List, [], arith, length, reverse, subst, ℕ, ◌^◌, ◌∷◌, ◌≤◌}
use Rattle.std.proofs.lemmas.List.{length-reverse, reverse-reverse}
use Rattle.std.proofs.lemmas.List.Elements.{All-cons, All-nil}
use Rattle.std.proofs.lemmas.List.Sorted.{All-permutation, IsPermutation-reverse}
use Rattle.pipe_model.specs.Lawful.{IsLawful, IsLawfulPast}
use Rattle.history_laws.specs.Words.{Entry, Post, Setup, fabric}
use Rattle.history_laws.specs.Made.{IsMadeAll}
use Rattle.history_laws.specs.Posts.{EachPost}
use Rattle.wire_trace.specs.Traced.{AreWritable, IsWritable}
use Rattle.trace_laws.specs.Codes.{HasCodes}
use Rattle.trace_laws.proofs.Written.Bounds.{AreEntriesIn, IsPostIn, in-writable}
use Rattle.trace_laws.proofs.Written.Counts.{groups-most}
use Rattle.trace_laws.proofs.Written.Entries.{posts-in}
use Rattle.trace_laws.proofs.Written.Links.{IsFabricIn, after-in, first-fabric-in}

module _ (setup : Setup) (codes : HasCodes setup) (payload : List ℕ) (count : ℕ) where
  all-in : (past : List Entry) → IsMadeAll setup payload past → length past ≤ count → AreEntriesIn setup.links count past × IsFabricIn setup.links count (fabric past)
  all-in [] m l = (tt, first-fabric-in setup.links count)
  all-in (e ∷ past) m l = by (all-in past m.1 (omega (arith, l)))
    where
      by : AreEntriesIn setup.links count past × IsFabricIn setup.links count (fabric past) → AreEntriesIn setup.links count (e ∷ past) × IsFabricIn setup.links count (fabric (e ∷ past))
      by was =
          let new : EachPost (IsPostIn setup.links count) e.posts = posts-in setup codes payload past count (omega (arith, l)) (groups-most setup payload past m.1) was.0 was.1 m.0.0 e m.0.1 in
          ((new, was.0), after-in setup.links count e.event e.reply e.posts past (fabric past) new was.0 was.1)

module _ (most count : ℕ) (few : most ≤ 8) (short : count ≤ 2 ^ 18) where
  each-written : (posts : List Post) → EachPost (IsPostIn most count) posts → All IsWritable posts
  each-written [] i = All-nil IsWritable
  each-written (p ∷ posts) i = All-cons IsWritable p posts (in-writable most count few short p i.0) (each-written posts i.1)

  all-written : (past : List Entry) → AreEntriesIn most count past → AreWritable past
  all-written [] i = All-nil (λ (e : Entry). All IsWritable e.posts)
  all-written (e ∷ past) i = All-cons (λ (d : Entry). All IsWritable d.posts) e past (each-written e.posts i.0) (all-written past i.1)

-- of histories whose entries the definitions make
pub made-written : (setup : Setup) (payload : List ℕ) (past : List Entry) → HasCodes setup → IsMadeAll setup payload past → length past ≤ 2 ^ 18 → AreWritable past
made-written setup payload past codes m l = all-written setup.links (2 ^ 18) codes.links (omega arith) past (let i = all-in setup codes payload (2 ^ 18) past m l in i.0)

lawful-made : (setup : Setup) (payload : List ℕ) (past : List Entry) (heard : List ℕ) → IsLawfulPast setup payload past heard → IsMadeAll setup payload past
lawful-made setup payload [] heard lawful = tt
lawful-made setup payload (e ∷ past) heard lawful = ((length lawful.0, record { reply = lawful.1.reply; posts = lawful.1.posts }), lawful-made setup payload past lawful.0 lawful.2)

-- and of lawful ones, the oldest entry first
pub lawful-written : (setup : Setup) (payload : List ℕ) (history : List Entry) (heard : List ℕ) → HasCodes setup → IsLawful setup payload history heard → length history ≤ 2 ^ 18 → AreWritable history
lawful-written setup payload history heard codes lawful l =
    let same = length-reverse history in
    let w = made-written setup payload (reverse history) codes (lawful-made setup payload (reverse history) heard lawful) (omega (arith, same, l)) in
    subst (λ es. AreWritable es) (reverse-reverse history) (All-permutation (λ (e : Entry). All IsWritable e.posts) (reverse history) (reverse (reverse history)) (IsPermutation-reverse (reverse history)) w)

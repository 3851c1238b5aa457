-- In every played history the handshake gives what the pipes need of it.
use Rattle.std.proofs.Common.{◌∙◌, ℕ, List, [], ◌∷◌, sym}
use Rattle.smc_num.specs.declared.Side.TheVariants.{A, B}
use Rattle.pipe_model.specs.declared.setup.Setup.{Setup}
use Rattle.pipe_model.specs.declared.entry.Entry.{Entry}
use Rattle.pipe_model.specs.Lawful.{draft}
use Rattle.world_core.specs.Played.{IsOneLink, IsMade, IsPlayed}
use Rattle.world_core.specs.OneLink.{Stage}
use Rattle.world_core.specs.Sockets.{IsWorld}
use Rattle.world_core.specs.Agreement.{HasOffers, GoesOn, IsShaken, PostsFew, GivesItems}
use Rattle.world_core.proofs.PlayedWorlds.{goes, played}
use Rattle.world_core.proofs.NewOffers.{HasSocketAt, asked-offers}
use Rattle.world_core.proofs.Shaken.{Choice, only-link, offer-answer, kept-by}
use Rattle.world_core.proofs.LendingFacts.{offer-on-link, offer-known, played-lendings, tokens-tell}
use Rattle.world_core.proofs.LinkFacts.{no-group-ends-with}
use Rattle.world_core.proofs.Rising.{comes-named, comes-offered, is-calm}
use Rattle.world_core.specs.Due.{PostsDue}
use Rattle.world_core.proofs.Due.{posts-due}
use Rattle.world_core.proofs.OneSender.{posts-few}
use Rattle.world_core.proofs.Agreed.{draft-items}
use Rattle.world_core.proofs.EntryItems.{items-are, below-is}
use Rattle.world_core.proofs.Ways.{way}
use Rattle.pipe_model.specs.Connections.{deeds}
use Rattle.std.proofs.Common.{◌++◌, ap}

-- where a socket stands in a world
at-socket : (setup : Setup) (stage : Stage) (past : List Entry) → IsWorld setup stage past → (s : ℕ) → HasSocketAt setup s past
at-socket setup stage past w s = let h = w.sockets s in record { at = h.at; stands = h.stands }

module _ (setup : Setup) (one : IsOneLink setup) (payload : List ℕ) where
  choice-of : (e : Entry) (past : List Entry) (before : ℕ) (made : IsMade setup payload past before e) (stage : Stage) → IsWorld setup stage past → Choice setup payload e past before made
  choice-of e past before made stage w = asked-offers setup payload past (at-socket setup stage past w) e.event (draft setup payload past before e.event).reply made.built

  goes-on : (e : Entry) (past : List Entry) (before : ℕ) (made : IsMade setup payload past before e) (from to : Stage) → IsWorld setup from past → IsWorld setup to (e ∷ past) → HasOffers setup past → GoesOn e past
  goes-on e past before made from to was now offers =
      let c = choice-of e past before made from was in
      let k = kept-by setup payload e past before made c in
      record {
        kept = k;
        ups = λ x s l f. (let n = comes-named x s e past l f in let m = n.1 in sym m.1 ∙ offers.link B s n.0 m.0, comes-offered setup payload e past before made c to now x s l f);
        stands = λ x g. no-group-ends-with setup from to e past was now x g;
      }

  pub has-offers : (past : List Entry) (n : ℕ) → IsPlayed setup payload past n → HasOffers setup past
  has-offers past n p =
      let w = played setup one payload past n p in
      let world = w.world in
      record {
        link = λ x s o f. offer-on-link setup w.stage past world x s o f;
        known = λ x s o f. offer-known setup payload x past (played-lendings setup one payload past n p x) s o f;
        tokens = λ x s t o r f g h. tokens-tell setup payload x past (played-lendings setup one payload past n p x) s t o r f g h;
        answer = λ s f. let h = world.sockets s in let at = h.stands in at.offer A ∙ offer-answer h.at (sym (at.offer B) ∙ f);
      }

  -- the handshake gives it
  pub shaken : (past : List Entry) (n : ℕ) → IsPlayed setup payload past n → IsShaken setup past
  shaken [] n p = has-offers [] n p
  shaken (e ∷ past) n p =
      let w = played setup one payload past p.0 p.3 in
      let world = w.world in
      let v = goes setup one payload w.stage p.0 e past p.1 world in (
        has-offers (e ∷ past) n p,
        (only-link setup w.stage past world.link, (goes-on e past p.0 p.1 w.stage v.stage world v.world (has-offers past p.0 p.3), shaken past p.0 p.3)),
      )

  -- one batch at most with an entry
  pub one-batch : (e : Entry) (past : List Entry) (n : ℕ) (p : IsPlayed setup payload (e ∷ past) n) → PostsFew setup payload (draft setup payload past p.0 e.event) past
  one-batch e past n p =
      let w = played setup one payload past p.0 p.3 in
      let world = w.world in
      let v = goes setup one payload w.stage p.0 e past p.1 world in
      let offers = has-offers past p.0 p.3 in
      posts-few setup payload e past p.0 p.0 p.1 p.3 offers (only-link setup w.stage past world.link) (goes-on e past p.0 p.1 w.stage v.stage world v.world offers) (shaken past p.0 p.3) (is-calm setup w.stage v.stage e past world v.world)

  -- what the entry gives
  pub gives-items : (e : Entry) (past : List Entry) (n : ℕ) (p : IsPlayed setup payload (e ∷ past) n) → GivesItems setup payload p.0 e past
  gives-items e past n p =
      let w = played setup one payload past p.0 p.3 in
      let world = w.world in
      let v = goes setup one payload w.stage p.0 e past p.1 world in
      let offers = has-offers past p.0 p.3 in
      let only = only-link setup w.stage past world.link in
      let go = goes-on e past p.0 p.1 w.stage v.stage world v.world offers in
      record {
        of_draft = draft-items setup payload e past p.0 p.0 p.1 p.3 offers only go (shaken past p.0 p.3);
        items_are = λ s. items-are payload 1 s e past ∙ ap (λ is. deeds payload s e.event e.reply past ++ is) (below-is 1 s e past go);
        calm = is-calm setup w.stage v.stage e past world v.world;
        goes_on = go;
        way = λ x. way payload past e setup p.0 x only p.1;
      }

  -- what the pipes post is due
  pub posts-what-is-due : (e : Entry) (past : List Entry) (n : ℕ) (p : IsPlayed setup payload (e ∷ past) n) → PostsDue setup payload (draft setup payload past p.0 e.event) e past
  posts-what-is-due e past n p =
      let w = played setup one payload past p.0 p.3 in
      let world = w.world in
      let v = goes setup one payload w.stage p.0 e past p.1 world in
      let offers = has-offers past p.0 p.3 in
      posts-due setup payload e past p.0 p.0 p.1 p.3 offers (only-link setup w.stage past world.link) (goes-on e past p.0 p.1 w.stage v.stage world v.world offers) (shaken past p.0 p.3) (is-calm setup w.stage v.stage e past world v.world)

use Rattle.std.proofs.Common.{◌≡◌, ◌∙◌, ◌+◌, ◌<◌, List, [], ◌∷◌, ◌++◌, length, refl, sym, ap, subst, arith, vec_capacity}
use Rattle.std.proofs.lemmas.List.{length-append}
use Rattle.pipe_model.specs.Pipe.{Terms}
use Rattle.pipe_model.specs.Ends.{fresh}
use Rattle.conn_end.specs.Kept.{Kept, Represents}
use Rattle.side_core.specs.Records.{Connection, Records, AllStand, begins, new_route}
use Rattle.side_core.specs.Inside.{IsTable, IsFiled, IsMade, made_with, records_of}
use Rattle.side_core.proofs.Sockets.{named_last, table_begun, last_made}
use Rattle.side_core.proofs.Ends.{begun_stands}
use Rattle.side_core.proofs.connections.Connections.begin.Goals as goal

pub invariant_of-self : goal.invariant_of-self
invariant_of-self c =
    let x = c.self.inside in
    let terms : Terms = made_with x.size x.depth x.number in
    let left : List Kept = c.pop.new.self.items in
    let end : Kept = c.in-Some.end in
    let split : x.idle.items ≡ left ++ end ∷ [] = c.in-Some.ensures.items in
    let made : IsMade terms end = last_made terms x.idle.items left end c.self.invariant.made split in
    let token : c.len-token.result ≡ length x.by_token.items + 1 = omega (arith, c.len-token.ensures, c.push_reserved.new.self.ok.0, ap length c.push_reserved.ensures.items, length-append x.by_token.items (c.args.s ∷ [])) in
    let new : Connection Kept = record { route = new_route c.args.link c.args.element c.len-token.result; end = c.start.new.self } in
    let filed : IsFiled terms (x.by_token.items ++ c.args.s ∷ []) x.by_peer.items c.args.s new = record {
      made = record { size = c.start.ensures.new.size ∙ made.size; depth = c.start.ensures.new.depth ∙ made.depth; first = c.start.ensures.new.first ∙ made.first };
      set = record { kept = c.start.ensures.end.whole; owes = c.start.ensures.new.owes; aimed = tt };
      own = named_last c.len-token.result c.args.s x.by_token.items token;
      peer = tt;
    } in
    let within : c.args.s < length x.records.slots = subst (λ (u : Records Kept). c.args.s < length u.by_socket) (sym c.self.view_is) c.requires.range in
    subst (λ ts. IsTable terms c.put.new.self ts x.by_peer.items left (vec_capacity c.push_reserved.new.self) (vec_capacity c.pop.new.self)) (sym c.push_reserved.ensures.items)
    (subst (λ n. IsTable terms c.put.new.self (x.by_token.items ++ c.args.s ∷ []) x.by_peer.items left n (vec_capacity c.pop.new.self)) (sym c.push_reserved.ensures.capacity)
    (subst (λ n. IsTable terms c.put.new.self (x.by_token.items ++ c.args.s ∷ []) x.by_peer.items left (vec_capacity x.by_token) n) (sym c.in-Some.ensures.capacity)
    (table_begun terms x.records c.put.new.self x.by_token.items x.by_peer.items x.idle.items left end (vec_capacity x.by_token) (vec_capacity x.idle) c.args.s new c.self.invariant within split c.put.ensures.slots c.put.ensures.room c.put.ensures.capacity filed)))

pub returns-clause-begins : goal.returns-clause-begins
returns-clause-begins c = λ r live.
    let x = c.self.inside in
    let terms : Terms = made_with x.size x.depth x.number in
    let left : List Kept = c.pop.new.self.items in
    let end : Kept = c.in-Some.end in
    let split : x.idle.items ≡ left ++ end ∷ [] = c.in-Some.ensures.items in
    let made : IsMade terms end = last_made terms x.idle.items left end c.self.invariant.made split in
    let v : Records Kept = records_of terms x.records x.by_token.items x.idle.items in
    let w : Records Kept = records_of terms c.put.new.self c.push_reserved.new.self.items left in
    let tokens : length c.push_reserved.new.self.items ≡ length x.by_token.items + 1 = ap length c.push_reserved.ensures.items ∙ length-append x.by_token.items (c.args.s ∷ []) in
    let token : c.len-token.result ≡ length x.by_token.items + 1 = omega (arith, c.len-token.ensures, c.push_reserved.new.self.ok.0, tokens) in
    let new : Connection Kept = record { route = new_route c.args.link c.args.element c.len-token.result; end = c.start.new.self } in
    let within : c.args.s < length x.records.slots = subst (λ (u : Records Kept). c.args.s < length u.by_socket) (sym c.self.view_is) c.requires.range in
    subst (λ (u : Records Kept). AllStand u r → AllStand w (begins c.args.s c.args.link c.args.element live r)) c.self.view_is
    (λ all. begun_stands v w r c.args.s c.args.link c.args.element live new all refl tokens (omega (arith, ap length split, length-append left (end ∷ []))) c.put.ensures.slots within
    (ap (new_route c.args.link c.args.element) token)
    (c.start.ensures.new.size ∙ made.size)
    (subst (λ n. Represents c.start.new.self (fresh n)) made.first c.start.ensures.end))

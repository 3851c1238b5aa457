-- How long the CLC messages are that wait to be taken.
use Rattle.std.proofs.Common.{◌≡◌, ◌∙◌, ap, sym, subst, refl, arith, length-append}
use Rattle.std.specs.Prelude.{Bool, List, Option, Some, None, [], false, true, filter_map, if◌then◌else◌, length, drop, ℕ, ◌+◌, ◌*◌, ◌++◌, ◌≤◌, ◌∷◌}
use Rattle.std.specs.Int.{bytes_high_first}
use Rattle.smc_num.specs.declared.Side.{Side}
use Rattle.smc_num.specs.declared.Side.TheVariants.{A, B}
use Rattle.smc_num.specs.declared.LinkId.{LinkId}
use Rattle.smc_num.specs.Names.{head}
use Rattle.clc_wire.specs.declared.header.Kind.{Kind}
use Rattle.clc_wire.specs.declared.header.Kind.TheVariants.{Proposal as ProposalKind, Accept as AcceptKind, Confirm as ConfirmKind, Decline as DeclineKind}
use Rattle.clc_wire.specs.declared.proposal.Proposal.{Proposal}
use Rattle.clc_wire.specs.declared.offer.Offer.{Offer}
use Rattle.clc_wire.specs.declared.refusal.Refusal.{Refusal}
use Rattle.clc_wire.specs.declared.message.ClcMessage.{ClcMessage}
use Rattle.clc_wire.specs.declared.message.ClcMessage.TheVariants.{Proposal as ProposalMessage, Accept as AcceptMessage, Confirm as ConfirmMessage, Decline as DeclineMessage}
use Rattle.clc_wire.specs.Header.{eye_catcher, header_bytes}
use Rattle.clc_wire.specs.Proposal.{proposal_bytes}
use Rattle.clc_wire.specs.Offer.{offer_bytes}
use Rattle.clc_wire.specs.Refusal.{refusal_bytes}
use Rattle.clc_wire.specs.Clc.{clc_bytes, clc_length}
use Rattle.pipe_model.specs.declared.setup.Setup.{Setup}
use Rattle.pipe_model.specs.declared.entry.Entry.{Entry}
use Rattle.pipe_model.specs.Messages.{proposal, refusal}
use Rattle.pipe_model.specs.Posts.{new_offer}
use Rattle.pipe_model.specs.Fallback.{clc_in, takes_clc, untaken}
use Rattle.world_core.specs.Played.{IsOneLink, IsPlayed}
use Rattle.world_core.proofs.ClcPosts.{IsNew, News, NoNews, OneNews, news, puts}

-- the lengths of parts add up
parts_5 : (h a b c d : List ℕ) → length (h ++ a ++ b ++ c ++ d) ≡ length h + length a + length b + length c + length d
parts_5 h a b c d = simp length-append

parts_10 : (h a b c d e f g i j : List ℕ) → length (h ++ a ++ b ++ c ++ d ++ e ++ f ++ g ++ i ++ j)
    ≡ length h + length a + length b + length c + length d + length e + length f + length g + length i + length j
parts_10 h a b c d e f g i j = simp length-append

parts_14 : (h a b c d e f g i j k l m n : List ℕ) → length (h ++ a ++ b ++ c ++ d ++ e ++ f ++ g ++ i ++ j ++ k ++ l ++ m ++ n)
    ≡ length h + length a + length b + length c + length d + length e + length f + length g + length i + length j + length k + length l + length m + length n
parts_14 h a b c d e f g i j k l m n = simp length-append

proposal_length : (p : Proposal) → length p.peer ≡ 8 → length p.gid ≡ 16 → length p.mac ≡ 6 → length (proposal_bytes p) ≡ 52
unfolding proposal_bytes
proposal_length p peer gid mac =
    let sum = parts_10 (header_bytes ProposalKind false) p.peer p.gid p.mac (bytes_high_first 2 0) (bytes_high_first 4 p.subnet) (p.prefix ∷ []) (bytes_high_first 2 0) (0 ∷ []) eye_catcher in
    omega (arith, sum, peer, gid, mac)

offer_length : (kind : Kind) (o : Offer) → length o.peer ≡ 8 → length o.gid ≡ 16 → length o.mac ≡ 6 → length (offer_bytes kind o) ≡ 68
unfolding offer_bytes
offer_length kind o peer gid mac =
    let sum = parts_14 (header_bytes kind o.first) o.peer o.gid o.mac (bytes_high_first 3 o.qp) (bytes_high_first 4 o.key) (o.index ∷ []) (bytes_high_first 4 o.token)
    ((o.size * 16 + o.mtu) ∷ []) (0 ∷ []) (bytes_high_first 8 o.address) (0 ∷ []) (bytes_high_first 3 o.psn) eye_catcher in
    omega (arith, sum, peer, gid, mac)

refusal_length : (r : Refusal) → length r.peer ≡ 8 → length (refusal_bytes r) ≡ 28
unfolding refusal_bytes
refusal_length r peer =
    let sum = parts_5 (header_bytes DeclineKind r.out) r.peer (bytes_high_first 4 r.diagnosis) (bytes_high_first 4 0) eye_catcher in
    omega (arith, sum, peer)

-- a message has the length that is told of it, which is at most that of an offer
pub record IsMeasured (m : ClcMessage) : Type 0 where
  pub length_is : length (clc_bytes m) ≡ clc_length m
  pub most : clc_length m ≤ 68

-- the messages that a side makes
new-offer-measured : (setup : Setup) (payload : List ℕ) (y : Side) (first : Bool) (link : LinkId) (past : List Entry) (kind : Kind) → length (offer_bytes kind (new_offer setup payload y first link past)) ≡ 68
new-offer-measured setup payload A first link past kind = offer_length kind (new_offer setup payload A first link past) refl refl refl
new-offer-measured setup payload B first link past kind = offer_length kind (new_offer setup payload B first link past) refl refl refl

pub measured-new : (setup : Setup) (payload : List ℕ) (y : Side) (past : List Entry) (link : Option LinkId) (m : ClcMessage) → IsNew setup payload y past link m → IsMeasured m
measured-new setup payload y past link (ProposalMessage p) is =
    record { length_is = ap (λ q. length (proposal_bytes q)) is ∙ proposal_length (proposal setup) refl refl refl; most = omega arith }
measured-new setup payload y past None (AcceptMessage o) is = absurd is.1
measured-new setup payload y past (Some link) (AcceptMessage o) is =
    record { length_is = ap (λ q. length (offer_bytes AcceptKind q)) is.1.1 ∙ new-offer-measured setup payload y is.1.0 link past AcceptKind; most = omega arith }
measured-new setup payload y past None (ConfirmMessage o) is = absurd is.1
measured-new setup payload y past (Some link) (ConfirmMessage o) is =
    record { length_is = ap (λ q. length (offer_bytes ConfirmKind q)) is.1.1 ∙ new-offer-measured setup payload y is.1.0 link past ConfirmKind; most = omega arith }
measured-new setup payload A past link (DeclineMessage r) is = record { length_is = ap (λ q. length (refusal_bytes q)) is.1 ∙ refusal_length (refusal A is.0) refl; most = omega arith }
measured-new setup payload B past link (DeclineMessage r) is = record { length_is = ap (λ q. length (refusal_bytes q)) is.1 ∙ refusal_length (refusal B is.0) refl; most = omega arith }

-- something holds of each message
abbrev pub EachMessage : (ClcMessage → Type 0) → List ClcMessage → Type 0
EachMessage P [] = Unit {0}
EachMessage P (m ∷ ms) = P m × EachMessage P ms

pub each-append : (P : ClcMessage → Type 0) (ms ns : List ClcMessage) → EachMessage P ms → EachMessage P ns → EachMessage P (ms ++ ns)
each-append P [] ns a b = b
each-append P (m ∷ ms) ns a b = (a.0, each-append P ms ns a.1 b)

pub each-drop-one : (P : ClcMessage → Type 0) (b : Bool) (ms : List ClcMessage) → EachMessage P ms → EachMessage P (drop (if b then 1 else 0) ms)
each-drop-one P true [] a = tt
each-drop-one P true (m ∷ ms) a = a.1
each-drop-one P false ms a = a

-- each message that waits
pub untaken-measured : (setup : Setup) → IsOneLink setup → (payload : List ℕ) (past : List Entry) (n : ℕ) → IsPlayed setup payload past n → (x : Side) (s : ℕ) → EachMessage IsMeasured (untaken x s past)
untaken-measured setup one payload [] n p x s = tt
untaken-measured setup one payload (e ∷ past) n p x s =
    each-append IsMeasured (drop (if takes_clc x s e.event e.reply then 1 else 0) (untaken x s past)) (filter_map (clc_in x s) e.posts)
    (each-drop-one IsMeasured (takes_clc x s e.event e.reply) (untaken x s past) (untaken-measured setup one payload past p.0 p.3 x s))
    (by (news setup payload e past (puts setup one payload e past n p) x s))
  where
    by : News setup payload e past x s → EachMessage IsMeasured (filter_map (clc_in x s) e.posts)
    by (NoNews is) = subst (λ (ms : List ClcMessage). EachMessage IsMeasured ms) (sym is) tt
    by (OneNews link m is offers side a) = subst (λ (ms : List ClcMessage). EachMessage IsMeasured ms) (sym is) (measured-new setup payload x past link m a.new, tt)

pub each-first : (P : ClcMessage → Type 0) (ms : List ClcMessage) (m : ClcMessage) → EachMessage P ms → head ms ≡ Some m → P m
each-first P [] m a e = cc
each-first P (k ∷ ms) m a e = subst P (some-is k m e) a.0
  where
    some-is : (k m : ClcMessage) → Some k ≡ Some m → k ≡ m
    some-is k m e = cc

pub first-measured : (setup : Setup) → IsOneLink setup → (payload : List ℕ) (past : List Entry) (n : ℕ) → IsPlayed setup payload past n → (x : Side) (s : ℕ) (m : ClcMessage) → head (untaken x s past) ≡ Some m → IsMeasured m
first-measured setup one payload past n p x s m is = each-first IsMeasured (untaken x s past) m (untaken-measured setup one payload past n p x s) is

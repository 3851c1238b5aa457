-- What is read of the messages about links, and that what is written spells them.
use Rattle.std.proofs.Common.{◌≡◌, ◌∙◌, ℕ, ◌+◌, ◌<◌, ◌^◌, ◌%◌, Bool, true, false, List, [], ◌∷◌, ◌++◌, length, take, drop, get_or, Ok, refl, sym, ap, append_assoc, arith}
use Rattle.byteorder.specs.Endian.{big_bytes, big_number}
use Rattle.byteorder.specs.Numbers.{big_number-reads_back}
use Rattle.field_cases.specs.Fields.{zeros}
use Rattle.llc_wire.specs.declared.LlcMessage.TheVariants.{ConfirmLink, AddLink, DeleteLink, TestLink}
use Rattle.llc_wire.specs.Frame.{is_set, flag}
use Rattle.llc_wire.specs.ConfirmLink.{confirm_link_around, confirm_link_bytes, SpellsConfirmLink}
use Rattle.llc_wire.specs.AddLink.{add_link_around, add_link_bytes, reason_where, SpellsAddLink}
use Rattle.llc_wire.specs.DeleteLink.{delete_link_bytes, SpellsDeleteLink}
use Rattle.llc_wire.specs.TestLink.{test_link_bytes, SpellsTestLink}
use Rattle.llc_wire.specs.Llc.{llc_read}
use Rattle.llc_wire.proofs.Fields.{take-run, drop-run, get_or-run, is_set-flag, reply_rejected, reply_all_orderly}

-- TEST LINK
pub test_link_read : (bytes : List ℕ) (reply : Bool) (test : List ℕ) → length test ≡ 16 → SpellsTestLink bytes reply test → llc_read bytes ≡ Ok (TestLink reply test)
test_link_read bytes reply test long s = ap llc_read s.are ∙ (λ i. Ok (TestLink (s.reply_flag i) (take-run 16 test s.rest long i)))

pub test_link_written : (reply : Bool) (test : List ℕ) → SpellsTestLink (test_link_bytes reply test) reply test
test_link_written reply test = record { second = 0; flags = flag reply 0x80; rest = zeros 24; reply_flag = is_set-flag reply; rest_length = refl; are = refl }

-- CONFIRM LINK
pub confirm_link_read : (bytes : List ℕ) (reply : Bool) (mac gid : List ℕ) (qp link user most : ℕ) → length mac ≡ 6 → length gid ≡ 16 → qp < 2 ^ 24 → user < 2 ^ 32
    → SpellsConfirmLink bytes reply mac gid qp link user most → llc_read bytes ≡ Ok (ConfirmLink reply mac gid qp link user most)
confirm_link_read bytes reply mac gid qp link user most six sixteen q u s =
    let tail = big_bytes 3 qp ++ (link ∷ (big_bytes 4 user ++ (most ∷ s.rest))) in
    let right : confirm_link_around s.second s.flags s.rest mac gid qp link user most ≡ 1 ∷ 44 ∷ s.second ∷ s.flags ∷ (mac ++ (gid ++ tail)) = simp append_assoc in
    let gid_at : take 16 (drop 6 (mac ++ (gid ++ tail))) ≡ gid = ap (λ xs. take 16 xs) (drop-run 6 0 mac (gid ++ tail) six) ∙ take-run 16 gid tail sixteen in
    let qp_at : big_number 3 (drop 22 (mac ++ (gid ++ tail))) ≡ qp = ap (big_number 3) (drop-run 6 16 mac (gid ++ tail) six ∙ drop-run 16 0 gid tail sixteen) ∙ big_number-reads_back 3 qp [] q in
    let link_at : get_or (mac ++ (gid ++ tail)) 25 0 ≡ link = get_or-run 6 19 mac (gid ++ tail) six ∙ get_or-run 16 3 gid tail sixteen in
    let user_at : big_number 4 (drop 26 (mac ++ (gid ++ tail))) ≡ user = ap (big_number 4) (drop-run 6 20 mac (gid ++ tail) six ∙ drop-run 16 4 gid tail sixteen) ∙ big_number-reads_back 4 user [] u in
    let most_at : get_or (mac ++ (gid ++ tail)) 30 0 ≡ most = get_or-run 6 24 mac (gid ++ tail) six ∙ get_or-run 16 8 gid tail sixteen in
    ap llc_read (s.are ∙ right)
    ∙ (λ i. Ok (ConfirmLink (s.reply_flag i) (take-run 6 mac (gid ++ tail) six i) (gid_at i) (qp_at i) (link_at i) (user_at i) (most_at i)))

pub confirm_link_written : (reply : Bool) (mac gid : List ℕ) (qp link user most : ℕ) → SpellsConfirmLink (confirm_link_bytes reply mac gid qp link user most) reply mac gid qp link user most
confirm_link_written reply mac gid qp link user most = record { second = 0; flags = flag reply 0x80; rest = zeros 9; reply_flag = is_set-flag reply; rest_length = refl; are = refl }

-- ADD LINK
reason_read : (rejected : Bool) (second reason : ℕ) → (rejected ≡ true → second % 16 ≡ reason) → (rejected ≡ false → reason ≡ 0) → reason_where rejected (second % 16) ≡ reason
reason_read true second reason has none = has refl
reason_read false second reason has none = sym (none refl)

reason_written : (rejected : Bool) (reason : ℕ) → reason < 16 → rejected ≡ true → reason_where rejected reason % 16 ≡ reason
reason_written true reason low e = omega arith
reason_written false reason low e = cc

pub add_link_read : (bytes : List ℕ) (reply rejected : Bool) (reason : ℕ) (mac gid : List ℕ) (qp link mtu psn : ℕ) → length mac ≡ 6 → length gid ≡ 16 → qp < 2 ^ 24 → psn < 2 ^ 24 → (rejected ≡ false → reason ≡ 0)
    → SpellsAddLink bytes reply rejected reason mac gid qp link mtu psn → llc_read bytes ≡ Ok (AddLink reply rejected reason mac gid qp link mtu psn)
add_link_read bytes reply rejected reason mac gid qp link mtu psn six sixteen q p none s =
    let tail = big_bytes 3 qp ++ (link ∷ s.mtu_byte ∷ (big_bytes 3 psn ++ s.rest)) in
    let right : add_link_around s.second s.flags s.two s.mtu_byte s.rest mac gid qp link psn ≡ 2 ∷ 44 ∷ s.second ∷ s.flags ∷ (mac ++ (s.two ++ (gid ++ tail))) = simp append_assoc in
    let reason_at : reason_where (is_set 0x40 s.flags) (s.second % 16) ≡ reason = ap (λ b. reason_where b (s.second % 16)) s.rejected_flag ∙ reason_read rejected s.second reason s.reason_bits none in
    let gid_at : take 16 (drop 8 (mac ++ (s.two ++ (gid ++ tail)))) ≡ gid =
    ap (λ xs. take 16 xs) (drop-run 6 2 mac (s.two ++ (gid ++ tail)) six ∙ drop-run 2 0 s.two (gid ++ tail) s.two_length) ∙ take-run 16 gid tail sixteen in
    let qp_at : big_number 3 (drop 24 (mac ++ (s.two ++ (gid ++ tail)))) ≡ qp =
    ap (big_number 3) (drop-run 6 18 mac (s.two ++ (gid ++ tail)) six ∙ (drop-run 2 16 s.two (gid ++ tail) s.two_length ∙ drop-run 16 0 gid tail sixteen)) ∙ big_number-reads_back 3 qp [] q in
    let link_at : get_or (mac ++ (s.two ++ (gid ++ tail))) 27 0 ≡ link =
    get_or-run 6 21 mac (s.two ++ (gid ++ tail)) six ∙ (get_or-run 2 19 s.two (gid ++ tail) s.two_length ∙ get_or-run 16 3 gid tail sixteen) in
    let mtu_at : get_or (mac ++ (s.two ++ (gid ++ tail))) 28 0 % 16 ≡ mtu =
    ap (λ b. b % 16) (get_or-run 6 22 mac (s.two ++ (gid ++ tail)) six ∙ (get_or-run 2 20 s.two (gid ++ tail) s.two_length ∙ get_or-run 16 4 gid tail sixteen)) ∙ s.mtu_bits in
    let psn_at : big_number 3 (drop 29 (mac ++ (s.two ++ (gid ++ tail)))) ≡ psn =
    ap (big_number 3) (drop-run 6 23 mac (s.two ++ (gid ++ tail)) six ∙ (drop-run 2 21 s.two (gid ++ tail) s.two_length ∙ drop-run 16 5 gid tail sixteen)) ∙ big_number-reads_back 3 psn [] p in
    ap llc_read (s.are ∙ right)
    ∙ (λ i. Ok (AddLink (s.reply_flag i) (s.rejected_flag i) (reason_at i) (take-run 6 mac (s.two ++ (gid ++ tail)) six i) (gid_at i) (qp_at i) (link_at i) (mtu_at i) (psn_at i)))

pub add_link_written : (reply rejected : Bool) (reason : ℕ) (mac gid : List ℕ) (qp link mtu psn : ℕ) → reason < 16 → mtu < 16
    → SpellsAddLink (add_link_bytes reply rejected reason mac gid qp link mtu psn) reply rejected reason mac gid qp link mtu psn
add_link_written reply rejected reason mac gid qp link mtu psn low lower = record {
  second = reason_where rejected reason;
  flags = flag reply 0x80 + flag rejected 0x40;
  two = zeros 2;
  mtu_byte = mtu;
  rest = zeros 8;
  reply_flag = (reply_rejected reply rejected).0;
  rejected_flag = (reply_rejected reply rejected).1;
  reason_bits = reason_written rejected reason low;
  mtu_bits = omega arith;
  two_length = refl;
  rest_length = refl;
  are = refl;
}

-- DELETE LINK
pub delete_link_read : (bytes : List ℕ) (reply all orderly : Bool) (link reason : ℕ) → reason < 2 ^ 32 → SpellsDeleteLink bytes reply all orderly link reason → llc_read bytes ≡ Ok (DeleteLink reply all orderly link reason)
delete_link_read bytes reply all orderly link reason r s =
    ap llc_read s.are ∙ (λ i. Ok (DeleteLink (s.reply_flag i) (s.all_flag i) (s.orderly_flag i) link (big_number-reads_back 4 reason [] r i)))

pub delete_link_written : (reply all orderly : Bool) (link reason : ℕ) → SpellsDeleteLink (delete_link_bytes reply all orderly link reason) reply all orderly link reason
delete_link_written reply all orderly link reason =
    let flags = reply_all_orderly reply all orderly in
    record {
      second = 0;
      flags = flag reply 0x80 + flag all 0x40 + flag orderly 0x20;
      rest = zeros 35;
      reply_flag = flags.a_back;
      all_flag = flags.b_back;
      orderly_flag = flags.c_back;
      rest_length = refl;
      are = refl;
    }

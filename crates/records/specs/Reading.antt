-- Reading a value of a record kind (rule K1): the record and how many bytes were consumed, or a refusal. The rest is
-- what follows the bytes consumed.
use Rattle.std.specs.Prelude.{Bool, true, cond, List, [], ◌∷◌, ℕ, ◌%◌, eqb, ltb, length, get_or}
use Rattle.numbers.specs.Numbers.{Answer, gives, refuses, and_then, is_given}
use Rattle.records.specs.declared.Record.{Record}
use Rattle.records.specs.declared.RecordRead.{RecordRead}
use Rattle.records.specs.Values.{address_at_lem, band_of_lem, version_of_lem, result_of, profile_of_lem, has_address, query_in_lem, association_in_lem, capability_in_lem}
use Rattle.records.specs.declared.RecordKind.{RecordKind}
use Rattle.records.specs.Kinds.{record_kinds, code_of}

-- Rules K2 and K4: a layout of nothing, in a kind that refuses left-over bytes by 4.
unfoldable pub empty : Record → List ℕ → Answer RecordRead
empty r s = cond (ltb 0 (length s)) (refuses 4 []) (gives (record { value = r; consumed = 0 }))

-- Rules K1 and K7: a layout of n bytes. A value that ends inside them is refused by 3, and then one that its kind's
-- check refuses by 5. What follows them is the rest.
unfoldable pub fixed : ℕ → Bool → Record → List ℕ → Answer RecordRead
fixed n accepted r s =
    cond (ltb (length s) n) (refuses 3 [])
    (cond accepted (gives (record { value = r; consumed = n }))
    (refuses 5 []))

abbrev any : Bool
any = true

-- Rule K2, line by line: how many bytes the layout has, the check of its value, and the record. A role other than 0, an
-- association byte other than 0x80 and 0x00, and profile 0 are refused.
abbrev pub of_kind_lem : RecordKind → List ℕ → Answer RecordRead
of_kind_lem RecordKind.EndOfMessage s = empty Record.EndOfMessage s
of_kind_lem RecordKind.AlMacAddress s = fixed 6 any (Record.AlMacAddress (address_at_lem s 0)) s
of_kind_lem RecordKind.MacAddress s = fixed 6 any (Record.MacAddress (address_at_lem s 0)) s
of_kind_lem RecordKind.SearchedRole s = fixed 1 (eqb (get_or s 0 0) 0) (Record.SearchedRole (get_or s 0 0)) s
of_kind_lem RecordKind.SupportedRole s = fixed 1 (eqb (get_or s 0 0) 0) (Record.SupportedRole (get_or s 0 0)) s
of_kind_lem RecordKind.SupportedFreqBand s = fixed 1 any (Record.SupportedFreqBand (band_of_lem (get_or s 0 0))) s
of_kind_lem RecordKind.Ieee1905ProfileVersion s = fixed 1 any (Record.Ieee1905ProfileVersion (version_of_lem (get_or s 0 0))) s
of_kind_lem RecordKind.LinkMetricResultCode s = fixed 1 any (Record.LinkMetricResultCode (result_of (get_or s 0 0))) s
of_kind_lem RecordKind.LinkMetricQuery s = fixed (cond (has_address (get_or s 0 0)) 8 2) any (Record.LinkMetricQuery (query_in_lem s)) s
of_kind_lem RecordKind.ClientAssociation s = fixed 13 (eqb (get_or s 12 0 % 128) 0) (Record.ClientAssociation (association_in_lem s)) s
of_kind_lem RecordKind.MultiApProfile s = fixed 1 (ltb 0 (get_or s 0 0)) (Record.MultiApProfile (profile_of_lem (get_or s 0 0))) s
of_kind_lem RecordKind.Profile2ApCapability s = fixed 4 any (Record.Profile2ApCapability (capability_in_lem s)) s

-- The kind with this code; 16 where no record kind has it. Rule K1 asks this of all kinds, in the crate `kinds`.
abbrev pub with_code : ℕ → List RecordKind → Answer RecordKind
with_code c [] = refuses 16 []
with_code c (k ∷ ks) = cond (eqb c (code_of k)) (gives k) (with_code c ks)

-- whether a record kind has this code
abbrev pub is_record_lem : ℕ → Bool
is_record_lem c = is_given (with_code c record_kinds)

-- Rule K1, for the record kinds: the value of the kind with this code. The order is 16, 3, 4, 5 (rules K7 and N2).
unfoldable pub read_record_lem : ℕ → List ℕ → Answer RecordRead
read_record_lem c s = and_then (with_code c record_kinds) (λ k. of_kind_lem k s)

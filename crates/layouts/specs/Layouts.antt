-- The layouts of the list kinds, as the table of rule K2 has them.
use Rattle.std.specs.Prelude.{Bool, cond, List, [], ◌∷◌, ℕ, ◌+◌, eqb, take}
use Rattle.numbers.specs.Numbers.{Answer, gives, refuses, is_given}

-- Rule K3: the count of a list has one byte (c1), or the list has no count and goes to the end.
pub data Counting : Type 0 where
  c1 : Counting
  to_end : Counting

-- Rule K3: an entry is some bytes, its head, and then, unless it is the head alone, a list of entries. A whole value is
-- an entry too.
pub data Layout : Type 0 where
  bytes : ℕ → Layout
  entry : ℕ → Counting → Layout → Layout

-- how the table writes layouts: a list of e with a count, e to the end, and n bytes and then e
abbrev pub c1_of : Layout → Layout
c1_of e = entry 0 c1 e

abbrev pub to_end_of : Layout → Layout
to_end_of e = entry 0 to_end e

infixr 5 ◌then◌
abbrev pub ◌then◌ : ℕ → Layout → Layout
n then bytes m = bytes (n + m)
n then entry m w e = entry (n + m) w e

-- Rule K8: the own fields of an entry, by their sizes in their order: how many bytes they have together, and where
-- field k starts, counted from 0. It stands after those before it.
abbrev pub size_of : List ℕ → ℕ
size_of [] = 0
size_of (w ∷ ws) = w + size_of ws

abbrev pub place : List ℕ → ℕ → ℕ
place ws k = size_of (take k ws)

-- SupportedService: a service
abbrev pub service_fields : List ℕ
service_fields = 1 ∷ []

-- before the list of either kind of neighbours: the address of the local interface
abbrev pub local_fields : List ℕ
local_fields = 6 ∷ []

-- NonIeee1905NeighborDevices: the address of a neighbour
abbrev pub other_neighbour_fields : List ℕ
other_neighbour_fields = 6 ∷ []

-- Ieee1905NeighborDevice: the AL address of a neighbour, and flags (bit 7: a bridge stands between)
abbrev pub neighbour_fields : List ℕ
neighbour_fields = 6 ∷ 1 ∷ []

-- before the list of either link metric: the AL addresses of the device that reports and of its neighbour
abbrev pub link_fields : List ℕ
link_fields = 6 ∷ 6 ∷ []

-- LinkMetricTx: the addresses of the interface itself and of the neighbour's, media type, bridge byte, errors, packets,
-- throughput, availability, rate
abbrev pub tx_pair_fields : List ℕ
tx_pair_fields = 6 ∷ 6 ∷ 2 ∷ 1 ∷ 4 ∷ 4 ∷ 2 ∷ 2 ∷ 2 ∷ []

-- LinkMetricRx: the same two addresses, media type, errors, packets, signal strength
abbrev pub rx_pair_fields : List ℕ
rx_pair_fields = 6 ∷ 6 ∷ 2 ∷ 4 ∷ 4 ∷ 1 ∷ []

-- Ipv4 and DeviceBridgingCapability: the address of an interface
abbrev pub interface_fields : List ℕ
interface_fields = 6 ∷ []

-- Ipv4, for each address of an interface: its type, the address, and that of the DHCP server
abbrev pub ipv4_fields : List ℕ
ipv4_fields = 1 ∷ 4 ∷ 4 ∷ []

-- Ipv6: the address of an interface, and its link-local address
abbrev pub ipv6_interface_fields : List ℕ
ipv6_interface_fields = 6 ∷ 16 ∷ []

-- Ipv6, for each address of an interface: its type, the address, and the address of its origin
abbrev pub ipv6_fields : List ℕ
ipv6_fields = 1 ∷ 16 ∷ 16 ∷ []

-- ApOperationalBss, BssConfigurationReport and DeviceInventory: the id of a radio
abbrev pub radio_fields : List ℕ
radio_fields = 6 ∷ []

-- ApOperationalBss: a BSSID, which the name follows as a list of bytes
abbrev pub bss_fields : List ℕ
bss_fields = 6 ∷ []

-- BssConfigurationReport: a BSSID, flags and a reserved byte, which the name follows
abbrev pub reported_bss_fields : List ℕ
reported_bss_fields = 6 ∷ 1 ∷ 1 ∷ []

-- a byte of a name
abbrev pub name_fields : List ℕ
name_fields = 1 ∷ []

pub record Line : Type 0 where
  pub code : ℕ
  pub layout : Layout

abbrev line : ℕ → Layout → Line
line n l = record { code = n; layout = l }

-- Rule K2: the list kinds, with their codes and layouts.
abbrev pub table : List Line
table =
    -- SupportedService
    line 0x80 (c1_of (bytes 1)) ∷
    -- NonIeee1905NeighborDevices
    line 6 (6 then to_end_of (bytes 6)) ∷
    -- Ieee1905NeighborDevice
    line 7 (6 then to_end_of (bytes 7)) ∷
    -- LinkMetricTx
    line 9 (12 then to_end_of (bytes 29)) ∷
    -- LinkMetricRx
    line 10 (12 then to_end_of (bytes 23)) ∷
    -- Ipv4
    line 23 (c1_of (6 then c1_of (bytes 9))) ∷
    -- Ipv6
    line 24 (c1_of (22 then c1_of (bytes 33))) ∷
    -- DeviceBridgingCapability
    line 4 (c1_of (c1_of (bytes 6))) ∷
    -- ApOperationalBss
    line 0x83 (c1_of (6 then c1_of (6 then c1_of (bytes 1)))) ∷
    -- BssConfigurationReport
    line 0xB7 (c1_of (6 then c1_of (8 then c1_of (bytes 1)))) ∷
    []

-- The line with this code; 16 where no list kind has it. Rule K1 asks this of all kinds, in the crate `kinds`.
abbrev pub line_of : ℕ → List Line → Answer Layout
line_of n [] = refuses 16 []
line_of n (l ∷ ls) = cond (eqb n l.code) (gives l.layout) (line_of n ls)

unfoldable pub layout_of : ℕ → Answer Layout
layout_of n = line_of n table

-- whether a list kind has this code
unfoldable pub is_list_lem : ℕ → Bool
is_list_lem n = is_given (layout_of n)

-- How many lists were given, by the EtherType of their first frame (IEEE 802 Numbers: 0x0800 is IPv4, 0x0806 ARP,
-- 0x86DD IPv6).
use Rattle.std.specs.Prelude.{ℕ, ◌+◌, ◌==◌, nat_lt, List, [], length, slice_index_or, if◌then◌else◌}
use Rattle.program_types.specs.Apply.{pair_at}
use Rattle.own_filter.specs.declared.counts.Counts.{Counts}

-- one more; the last number of 64 bits stays
abbrev pub one_more : ℕ → ℕ
one_more n = if nat_lt n 18446744073709551615 then n + 1 else n

abbrev pub counted : ℕ → Counts → Counts
counted n c =
    if n == 2048 then record c { ipv4 = one_more c.ipv4 } else
    if n == 2054 then record c { arp = one_more c.arp } else
    if n == 34525 then record c { ipv6 = one_more c.ipv6 } else
    record c { other = one_more c.other }

-- by the first frame; a list without frames isn't counted
abbrev pub counted_list : List (List ℕ) → Counts → Counts
counted_list frames c = if nat_lt 0 (length frames) then counted (pair_at (slice_index_or frames 0 []) 12) c else c

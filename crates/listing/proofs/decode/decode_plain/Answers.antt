use mathlib.Core.Path.{◌≡◌, refl}
use Rattle.meaning.specs.Listing.{instructions, instr_in, instr_of}
use Rattle.meaning.proofs.Laws.Listing.{by_row}
use Rattle.meaning.specs.Steps.{Instr}
use Rattle.listing.proofs.decode.decode_plain.Goals as goal

pub returns-in-11 : goal.returns-in-11
unfolding instr_of instr_in
returns-in-11 c = rw c.in-11.is (cc)

pub returns-in-12 : goal.returns-in-12
unfolding instr_of instr_in
returns-in-12 c = rw c.in-12.is (cc)

pub returns-in-13 : goal.returns-in-13
unfolding instr_of instr_in
returns-in-13 c = rw c.in-13.is (cc)

pub returns-in-14 : goal.returns-in-14
unfolding instr_of instr_in
returns-in-14 c = rw c.in-14.is

pub returns-in-15 : goal.returns-in-15
unfolding instr_of instr_in
returns-in-15 c = rw c.in-15.is

pub returns-in-16 : goal.returns-in-16
unfolding instr_of instr_in
returns-in-16 c = rw c.in-16.is

pub returns-in-17 : goal.returns-in-17
unfolding instr_of instr_in
returns-in-17 c = rw c.in-17.is

pub returns-in-18 : goal.returns-in-18
unfolding instr_of instr_in
returns-in-18 c = rw c.in-18.is (cc)

pub returns-in-19 : goal.returns-in-19
unfolding instr_of instr_in
returns-in-19 c = rw c.in-19.is (cc)

pub returns-in-20 : goal.returns-in-20
unfolding instr_of instr_in
returns-in-20 c = rw c.in-20.is (cc)

pub returns-in-21 : goal.returns-in-21
unfolding instr_of instr_in
returns-in-21 c = rw c.in-21.is (cc)

pub returns-in-23 : goal.returns-in-23
unfolding instr_of instr_in
returns-in-23 c = rw c.in-23.is

pub returns-in-24 : goal.returns-in-24
unfolding instr_of instr_in
returns-in-24 c = rw c.in-24.is (cc)

pub returns-in-25 : goal.returns-in-25
unfolding instr_of instr_in
returns-in-25 c = rw c.in-25.is

pub returns-in-26 : goal.returns-in-26
unfolding instr_of instr_in
returns-in-26 c = rw c.in-26.is (cc)

pub returns-in-27 : goal.returns-in-27
unfolding instr_of instr_in
returns-in-27 c = rw c.in-27.is (cc)

pub returns-in_default : goal.returns-in_default
unfolding instr_of instr_in
returns-in_default c =
    let n27 = c.in_default.in_default-own.rest in
    let n26 = n27.0 in
    let n25 = n26.0 in
    let n24 = n25.0 in
    let n23 = n24.0 in
    let n21 = n23.0 in
    let n20 = n21.0 in
    let n19 = n20.0 in
    let n18 = n19.0 in
    let n17 = n18.0 in
    let n16 = n17.0 in
    let n15 = n16.0 in
    let n14 = n15.0 in
    let n13 = n14.0 in
    let n12 = n13.0 in
    let n11 = n12.0 in
    by_row (λ i. Instr.Pop ≡ i) c.args.kind (instructions c.args.b.now) refl (
      λ e. refl,
      (
        λ e. absurd (n11.1 e),
        (
          λ e. absurd (n12.1 e),
          (
            λ e. absurd (n13.1 e),
            (
              λ e. absurd (n14.1 e),
              (
                λ e. absurd (n15.1 e),
                (
                  λ e. absurd (n16.1 e),
                  (
                    λ e. absurd (n17.1 e),
                    (
                      λ e. absurd (n18.1 e),
                      (
                        λ e. absurd (n19.1 e),
                        (
                          λ e. absurd (n20.1 e),
                          (
                            λ e. absurd (n21.1 e),
                            (
                              λ e. absurd (c.requires e),
                              (
                                λ e. absurd (n23.1 e),
                                (λ e. absurd (n24.1 e), (λ e. absurd (n25.1 e), (λ e. absurd (n26.1 e), (λ e. absurd (n27.1 e), tt)))),
                              ),
                            ),
                          ),
                        ),
                      ),
                    ),
                  ),
                ),
              ),
            ),
          ),
        ),
      ),
    )

-- public clauses cite
pub mod Box
pub mod Class
pub mod Answer

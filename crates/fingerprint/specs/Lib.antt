pub mod Fingerprint
pub mod FingerprintLaws
